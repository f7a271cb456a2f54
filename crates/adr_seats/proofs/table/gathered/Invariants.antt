use Rattle.std.proofs.Common.{◌≡◌, ◌++◌, length}
use Rattle.adr_seats.specs.Table.{joined}
use Rattle.adr_seats.proofs.table.gathered.Given as goal

-- the numbers so far, and then those of the chunks that are left
abbrev pub invariant-rest : goal.invariant-rest
invariant-rest l = l.all.items ++ joined l.rest ≡ joined l.chunks

abbrev pub decreases-rest : goal.decreases-rest
decreases-rest l = length l.rest
