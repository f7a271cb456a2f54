use Rattle.std.proofs.Common.{◌∷◌, ◌∙◌, refl, sym, ap}
use Rattle.adr_read.specs.Tokens.{token_of}
use Rattle.std.proofs.lemmas.Result.{err_from_is_err_and}
use Rattle.serde_json.specs.Data.{boolean, string}
use Rattle.adr_read.specs.Coming.{coming}
use Rattle.adr_read.proofs.ComingLemmas.{coming-boolean, coming-string, coming_begins}
use Rattle.adr_read.proofs.Telling.{no_datum}
use Rattle.adr_read.proofs.SeenTokens.{found, named, number_comes, number_datum, refused_number}
use Rattle.adr_read.proofs.values.DatumRead.read.Goals as goal

pub returns-in-Truth : goal.returns-in-Truth
returns-in-Truth c =
    let ts = c.args.reader.now in
    (boolean c.in-Truth.truth, ap (λ t. coming c.args.depth (token_of t ∷ ts)) c.in-Truth.is ∙ coming-boolean c.args.depth c.in-Truth.truth ts, (refl, refl))

pub returns-in-String : goal.returns-in-String
returns-in-String c =
    let ts = c.args.reader.now in
    (string c.in-String.text.now, ap (λ t. coming c.args.depth (token_of t ∷ ts)) c.in-String.is ∙ coming-string c.args.depth c.in-String.text.now ts, c.text_datum.ensures)

pub returns-in-None : goal.returns-in-None
returns-in-None c =
    let told = c.in_ok-x.ensures.told in
    let begins = coming_begins c.args.depth (token_of c.args.token) c.args.reader.now c.read_members.new.reader told.0 told.1 in
    (told.0, told.1, λ _. sym (no_datum c.args.token told.0 begins c.in_default.not-String c.in_default.not-Truth c.in_default.not-Number (rw c.in-None.is at told.2)))

pub returns-in-Number : goal.returns-in-Number
returns-in-Number c =
    let ts = c.args.reader.now in
    let s = c.in-Number.number.now in
    let e = found s _ c.in_ok-decimal-in-Number.ensures in
    (string (0 ∷ s), ap (λ t. coming c.args.depth (token_of t ∷ ts)) c.in-Number.is ∙ number_comes c.args.depth s ts (named s _ e), number_datum s _ e)

pub returns-in_err-decimal-in-Number : goal.returns-in_err-decimal-in-Number
returns-in_err-decimal-in-Number c =
    let out = err_from_is_err_and c.from_residual.result c.from_residual.ensures.1 in
    rw (out.1, out.2) (λ _. refused_number c.args.depth c.in-Number.number.now c.args.reader.now (token_of c.args.token) c.in_err-decimal-in-Number.field-0.0 (ap token_of c.in-Number.is) c.in_err-decimal-in-Number.ensures)
