use Rattle.adr_regroup.specs.Program.{with_program, AreMarked}
use Rattle.adr_regroup.proofs.program.marks_of.Given as goal

-- the events so far have marked where they turn
abbrev pub invariant-loop-place : goal.invariant-loop-place
invariant-loop-place l = AreMarked l.old.objects (with_program l.old.objects l.program) l.place l.marks.items
