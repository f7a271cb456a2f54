use Rattle.std.proofs.Common.{length}
use Rattle.adr_lines.specs.declared.indexes.Indexes.{Indexes}
use Rattle.adr_schedule.specs.declared.change.Change.{Change}
use Rattle.adr_schedule.specs.Moves.{AreMadeFor}
use Rattle.adr_schedule.specs.Shift.{Becomes}
use Rattle.adr_schedule.proofs.Turns.{AreUnderway}
use Rattle.adr_schedule.proofs.shift.move_all.Given as goal

-- what is left moves the rest
abbrev pub invariant-rest : goal.invariant-rest
invariant-rest l =
    (change : Change) (indexes : Indexes) → AreMadeFor (Becomes change indexes) l.places l.fn.seats l.initial.moves.values l.made
    → AreUnderway (Becomes change indexes) l.places l.rest l.fn.seats l.initial.moves.values l.seats l.moves.values l.moves.slots

abbrev pub decreases-rest : goal.decreases-rest
decreases-rest l = length l.rest
