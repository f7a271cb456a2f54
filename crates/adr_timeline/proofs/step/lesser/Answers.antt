use Rattle.std.proofs.Common.{refl}
use Rattle.adr_timeline.proofs.step.lesser.Goals as goal

pub returns-then-before-clause-lesser : goal.returns-then-before-clause-lesser
returns-then-before-clause-lesser c = rw (c.in-Some-Some.is-0, c.in-Some-Some.is-1, ← c.if-before.ensures.order) refl

pub returns-else-before-clause-lesser : goal.returns-else-before-clause-lesser
returns-else-before-clause-lesser c = rw (c.in-Some-Some.is-0, c.in-Some-Some.is-1, ← c.if-before.ensures.order) refl
