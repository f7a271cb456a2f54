use Rattle.std.proofs.Common.{◌≡◌, ◌++◌, length}
use Rattle.adr_seats.specs.Table.{joined, AreFull}
use Rattle.adr_seats.proofs.table.divided.Given as goal

-- the chunks so far, and then the numbers that are left
abbrev pub invariant-rest : goal.invariant-rest
invariant-rest l = record {
  same : joined l.full.items ++ l.rest ≡ l.all;
  full : AreFull l.full.items;
}

abbrev pub decreases-rest : goal.decreases-rest
decreases-rest l = length l.rest
