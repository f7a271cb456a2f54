use Rattle.std.proofs.Common.{◌≡◌, ◌++◌, replicate}
use Rattle.adr_calendar.proofs.printing.put_zeros.Given as goal

-- so many zeros stand there so far
abbrev pub invariant-loop-place : goal.invariant-loop-place
invariant-loop-place l = l.out.items ≡ l.initial.out.items ++ replicate l._place 48
