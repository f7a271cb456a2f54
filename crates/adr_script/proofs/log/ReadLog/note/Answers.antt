use Rattle.std.proofs.Common.{refl}
use Rattle.adr_script.proofs.log.ReadLog.note.Goals as goal

pub returns-in-Err-2-clause-failed : goal.returns-in-Err-2-clause-failed
returns-in-Err-2-clause-failed c = rw c.in-Err-2.is (λ _. (refl, refl))
