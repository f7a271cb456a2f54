use Rattle.std.proofs.Common.{length}
use Rattle.adr_group.proofs.Owned.{ArePartsOf}
use Rattle.adr_group.proofs.parts.add_parts.Given as goal

-- the parts, and the spans that are left, hold what the spans cover inside the window
abbrev pub invariant-rest : goal.invariant-rest
invariant-rest l = ArePartsOf l.window.span l.spans l.rest l.fn.parts.items l.parts.items

abbrev pub decreases-rest : goal.decreases-rest
decreases-rest l = length l.rest
