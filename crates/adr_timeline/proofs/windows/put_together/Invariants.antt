use Rattle.std.proofs.Common.{length}
use Rattle.adr_timeline.proofs.Touching.{AreTogether}
use Rattle.adr_timeline.proofs.windows.put_together.Given as goal

-- the windows so far, with the last of them, are those before those that are left
abbrev pub invariant-rest : goal.invariant-rest
invariant-rest l = AreTogether l.windows l.rest l.current l.wide.items

abbrev pub decreases-rest : goal.decreases-rest
decreases-rest l = length l.rest
