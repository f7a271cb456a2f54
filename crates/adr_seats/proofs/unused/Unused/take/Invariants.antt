use Rattle.std.proofs.Common.{◌≤◌}
use Rattle.std.specs.Vec.{vec_len}
use Rattle.adr_seats.proofs.unused.Unused.take.Given as goal

-- the slots from the place on are others
abbrev pub invariant-loop-place : goal.invariant-loop-place
invariant-loop-place l = l.place ≤ vec_len l.self.slots

abbrev pub decreases-loop-place : goal.decreases-loop-place
decreases-loop-place l = l.place
