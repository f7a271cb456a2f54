use Rattle.std.proofs.Common.{length}
use Rattle.adr_schedule.specs.Tally.{AreRising}
use Rattle.adr_schedule.proofs.tally.ascend.Given as goal

-- those that are left decide
abbrev pub invariant-rest : goal.invariant-rest
invariant-rest l = AreRising l.rest → AreRising l.places

abbrev pub decreases-rest : goal.decreases-rest
decreases-rest l = length l.rest
