-- What holds where a call is refused.
use Rattle.std.proofs.Common.{Result, Ok, Err, OnErr}

-- what holds in any case
pub on_err : {T E P : Type 0} (r : Result T E) → P → OnErr r P
on_err (Ok v) h = tt
on_err (Err e) h = h
