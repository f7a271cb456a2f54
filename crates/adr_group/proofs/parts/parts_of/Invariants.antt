use Rattle.std.proofs.Common.{length}
use Rattle.adr_group.proofs.Owned.{HaveParts}
use Rattle.adr_group.proofs.parts.parts_of.Given as goal

-- the parts, and the windows and spans that are left, hold what the spans cover inside the windows
abbrev pub invariant-rest : goal.invariant-rest
invariant-rest l = HaveParts l.windows l.rest l.spans l.left l.parts.items

abbrev pub decreases-rest : goal.decreases-rest
decreases-rest l = length l.rest
