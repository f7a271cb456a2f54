use Rattle.std.proofs.Common.{length}
use Rattle.adr_timeline.proofs.step.+rank.Given as goal

abbrev pub decreases-rank : goal.decreases-rank
decreases-rank l = length l.entries.now
