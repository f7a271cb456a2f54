use Rattle.std.proofs.lemmas.Result.{err_from_is_err_and}
use Rattle.adr_refusal.specs.Faults.{least}
use Rattle.adr_refusal.proofs.Judged.{gives_ok, gives_left, gives_right, least-append}
use Rattle.adr_refusal.proofs.judging.both.Goals as goal

pub returns : goal.returns
returns g c fs gs a b h k = gives_ok c.in-Ok.first a c.in_ok-second.field-0 b fs gs (rw c.in-Ok.is at h) (rw (c.in_ok-second.was) at k)

pub returns-in_default : goal.returns-in_default
returns-in_default g c fs gs a b h k = gives_left c.in-Err.first c.in_default.field-0 b fs gs (rw c.in-Err.is at h) (rw c.in_default.is at k)

pub returns-in-Err : goal.returns-in-Err
returns-in-Err g c fs gs a b h k = rw (least-append fs gs) (c.lesser.ensures (least fs) (least gs) (rw c.in-Err.is at h) (rw c.in-Err-second.is at k))

pub returns-in_err-second : goal.returns-in_err-second
returns-in_err-second g c fs gs a b h k =
    let p = err_from_is_err_and c.from_residual.result c.from_residual.ensures.1 in
    rw (p.1, p.2) (gives_right c.in_err-second.field-0.0 c.in-Ok.first a fs gs (rw c.in-Ok.is at h) (rw (c.in_err-second.was) at k))
