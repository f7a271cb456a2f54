use Rattle.std.proofs.Common.{◌∷◌, ◌∙◌, ap, refl, sym}
use Rattle.adr_read.specs.Tokens.{token_of}
use Rattle.serde_json.specs.Data.{string}
use Rattle.adr_read.specs.Coming.{coming}
use Rattle.adr_read.proofs.ComingLemmas.{coming-string, coming-as_str}
use Rattle.adr_read.proofs.Telling.{not_string}
use Rattle.std.proofs.lemmas.Result.{err_from_is_err_and}
use Rattle.adr_read.proofs.text.string_of.Goals as goal

pub returns-in-String : goal.returns-in-String
returns-in-String c =
    (string c.in-String.text.now, ap (λ t. coming c.args.depth (token_of t ∷ c.args.reader.now)) c.in-String.is ∙ coming-string c.args.depth c.in-String.text.now c.args.reader.now, refl)

pub returns : goal.returns
returns c =
    let comes = c.in_ok-skip.ensures.ok in
    (comes.0, comes.1, sym (coming-as_str c.args.depth (token_of c.args.token) c.args.reader.now c.skip.new.reader comes.0 comes.1 ∙ not_string c.args.token c.in_default.not-String c.requires.other))

pub returns-in_err-skip : goal.returns-in_err-skip
returns-in_err-skip c =
    let out = err_from_is_err_and c.from_residual.result c.from_residual.ensures.1 in
    rw (out.1, out.2) c.in_err-skip.ensures.bad
