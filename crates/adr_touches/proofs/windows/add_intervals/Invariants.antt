use Rattle.std.proofs.Common.{◌≡◌, ◌++◌, length, map}
use Rattle.adr_touches.specs.Windows.{touches_along}
use Rattle.adr_touches.proofs.windows.add_intervals.Given as goal

-- the touches so far, and then those of the intervals that are left
abbrev pub invariant-rest : goal.invariant-rest
invariant-rest l =
    l.touches.items ++ touches_along l.resource l.intervals (map (λ p. p.span) l.places)
    ≡ l.fn.touches.items ++ touches_along l.resource l.fn.intervals (map (λ p. p.span) l.fn.places)

abbrev pub decreases-rest : goal.decreases-rest
decreases-rest l = length l.places
