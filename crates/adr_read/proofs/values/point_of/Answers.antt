use Rattle.std.proofs.Common.{unwrap_or, ap}
use Rattle.std.proofs.lemmas.Result.{err_from_is_err_and}
use Rattle.serde_json.specs.Data.{null}
use Rattle.adr_value.specs.Number.{Number as Decimal}
use Rattle.adr_value.specs.declared.datum.Datum.TheVariants.{Point}
use Rattle.adr_read.specs.Sets.{required}
use Rattle.adr_read.specs.Values.{number_faults, number_in}
use Rattle.adr_read.proofs.Parts.{anywhere}
use Rattle.adr_read.proofs.values.point_of.Goals as goal

pub returns : goal.returns
returns c o p h k =
    let both = c.in_ok-x.ensures (required number_faults o) (required number_faults p) (number_in (unwrap_or o null)) (number_in (unwrap_or p null)) (c.required.ensures anywhere o h) (c.required-2.ensures anywhere p k) in
    (both.0, ap (λ (q : Decimal × Decimal). Point q.0 q.1) both.1)

pub returns-in_err-x : goal.returns-in_err-x
returns-in_err-x c o p h k =
    let out = err_from_is_err_and c.from_residual.result c.from_residual.ensures.1 in
    rw (out.1, out.2) (c.in_err-x.ensures (required number_faults o) (required number_faults p) (number_in (unwrap_or o null)) (number_in (unwrap_or p null)) (c.required.ensures anywhere o h) (c.required-2.ensures anywhere p k))
