use Rattle.adr_regroup.specs.Program.{AreThoseMarked}
use Rattle.adr_regroup.proofs.program.marked.Given as goal

-- of the places so far these are marked
abbrev pub invariant-loop-place : goal.invariant-loop-place
invariant-loop-place l = AreThoseMarked l.marks l.place l.places.items
