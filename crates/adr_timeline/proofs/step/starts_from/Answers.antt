use Rattle.std.proofs.Common.{refl}
use Rattle.adr_timeline.proofs.step.starts_from.Goals as goal

pub returns-in-Some : goal.returns-in-Some
returns-in-Some c = rw (c.in-Some.ensures.cases.0, c.is_before.ensures.test) refl
