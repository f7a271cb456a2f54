use Rattle.std.proofs.Common.{◌≡◌, ◌++◌, length}
use Rattle.adr_seats.specs.Table.{joined, AreFull}
use Rattle.adr_seats.proofs.table.shared.Given as goal

-- the chunks so far, and then those that are left
abbrev pub invariant-rest : goal.invariant-rest
invariant-rest l = record {
  same : joined l.copies.items ++ joined l.rest ≡ joined l.chunks;
  full : AreFull l.chunks → AreFull l.copies.items × AreFull l.rest;
}

abbrev pub decreases-rest : goal.decreases-rest
decreases-rest l = length l.rest
