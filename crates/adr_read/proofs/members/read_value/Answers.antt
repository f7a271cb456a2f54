use Rattle.std.proofs.Common.{◌≡◌, ◌∷◌, ◌∙◌, ap, false}
use Rattle.std.specs.Prelude.{is_some}
use Rattle.adr_read.specs.Tokens.{token_of}
use Rattle.serde_json.specs.Data.{null}
use Rattle.serde_json.specs.Find.{as_null}
use Rattle.adr_read.specs.Coming.{coming}
use Rattle.adr_read.proofs.ComingLemmas.{coming-null, coming-as_null}
use Rattle.adr_read.proofs.Telling.{not_null}
use Rattle.std.proofs.lemmas.Result.{err_from_is_err_and}
use Rattle.adr_read.proofs.members.read_value.Goals as goal

pub returns-in-Null : goal.returns-in-Null
returns-in-Null g c =
    (null, ap (λ t. coming c.args.depth (token_of t ∷ c.args.reader.now)) c.in-Null.is ∙ coming-null c.args.depth c.args.reader.now, tt)

pub returns : goal.returns
returns g c =
    let told = c.in_ok-read.ensures in
    let there : is_some (as_null told.0) ≡ false = coming-as_null c.args.depth (token_of c.args.token) c.args.reader.now c.read.new.reader told.0 told.1 ∙ not_null c.args.token c.in_default.not-Null in
    (told.0, told.1, rw there (rw c.at.ensures at told.2))

pub returns-in_err-read : goal.returns-in_err-read
returns-in_err-read g c =
    let out = err_from_is_err_and c.from_residual.result c.from_residual.ensures.1 in
    rw (out.1, out.2) c.in_err-read.ensures
