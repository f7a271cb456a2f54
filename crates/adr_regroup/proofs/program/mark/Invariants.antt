use Rattle.std.proofs.Common.{length}
use Rattle.adr_regroup.specs.Program.{IsMarking}
use Rattle.adr_regroup.proofs.program.mark.Given as goal

-- the places so far are marked
abbrev pub invariant-rest : goal.invariant-rest
invariant-rest l = IsMarking l.fn.marks.items l.marks.items l.places l.rest

abbrev pub decreases-rest : goal.decreases-rest
decreases-rest l = length l.rest
