use Rattle.std.proofs.Common.{length}
use Rattle.adr_timeline.proofs.part.+join_slice.Given as goal

abbrev pub decreases-join_slice : goal.decreases-join_slice
decreases-join_slice l = length l.segments.now
