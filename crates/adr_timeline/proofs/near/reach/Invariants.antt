use Rattle.adr_timeline.proofs.Within.{Holds}
use Rattle.adr_timeline.proofs.near.reach.Given as goal

-- the span so far holds the window
abbrev pub invariant-loop-next : goal.invariant-loop-next
invariant-loop-next l = Holds l.span l.fn.window
