use Rattle.std.proofs.Common.{◌≡◌, ◌++◌, filter, length}
use Rattle.adr_group.specs.Writes.{stays}
use Rattle.adr_group.proofs.writes.staying.Given as goal

-- the numbers so far, and then those of the rest
abbrev pub invariant-rest : goal.invariant-rest
invariant-rest l = l.kept.items ++ filter (stays l.gone) l.rest ≡ filter (stays l.gone) l.numbers

abbrev pub decreases-rest : goal.decreases-rest
decreases-rest l = length l.rest
