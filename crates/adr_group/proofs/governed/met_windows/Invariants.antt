use Rattle.std.proofs.Common.{length}
use Rattle.adr_group.proofs.Owned.{AreKept}
use Rattle.adr_group.proofs.governed.met_windows.Given as goal

-- what is kept and what is left hold what the spans cover inside the windows
abbrev pub invariant-rest : goal.invariant-rest
invariant-rest l = AreKept l.windows l.rest l.spans l.left l.kept.items

abbrev pub decreases-rest : goal.decreases-rest
decreases-rest l = length l.rest
