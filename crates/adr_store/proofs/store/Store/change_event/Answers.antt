use Rattle.std.proofs.Common.{Result, Ok, Err, OnErr, refl}
use Rattle.adr_store.proofs.store.Store.change_event.Goals as goal

on_err : {T E P : Type 0} (r : Result T E) → P → OnErr r P
on_err (Ok v) h = tt
on_err (Err e) h = h

pub returns-in_err-events-clause-err : goal.returns-in_err-events-clause-err
returns-in_err-events-clause-err c = on_err _ refl
