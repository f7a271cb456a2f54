use Rattle.std.proofs.Common.{◌∷◌, ◌∙◌, ap, sym}
use Rattle.std.proofs.lemmas.Result.{err_from_is_err_and}
use Rattle.serde_json.specs.Data.{string}
use Rattle.adr_read.specs.Coming.{coming}
use Rattle.adr_read.specs.Tokens.{token_of}
use Rattle.adr_read.proofs.SeenTokens.{found, named, number_comes, refused_number}
use Rattle.adr_read.proofs.text.decimal_of.Goals as goal

pub returns-in_err-decimal : goal.returns-in_err-decimal
returns-in_err-decimal c =
    let out = err_from_is_err_and c.from_residual.result c.from_residual.ensures.1 in
    rw (out.1, out.2) (λ _. refused_number c.args.depth c.in-Number.number.now c.args.reader.now (token_of c.args.token) c.in_err-decimal.field-0.0 (ap token_of c.in-Number.is) c.in_err-decimal.ensures)

pub returns-in-Number : goal.returns-in-Number
returns-in-Number c =
    let ts = c.args.reader.now in
    let s = c.in-Number.number.now in
    let e = found s _ c.in_ok-decimal.ensures in
    (string (0 ∷ s), ap (λ t. coming c.args.depth (token_of t ∷ ts)) c.in-Number.is ∙ number_comes c.args.depth s ts (named s _ e), sym e)
