use Rattle.std.proofs.Common.{◌≡◌, ℕ, length, get_or}
use Rattle.adr_seats.specs.Table.{numbers}
use Rattle.adr_seats.proofs.counts.Counts.reserve.Given as goal

-- no number has changed
abbrev pub invariant-loop-fresh : goal.invariant-loop-fresh
invariant-loop-fresh l = record {
  same : (s : ℕ) → get_or (numbers l.self-inside.members) s 0 ≡ get_or (numbers l.fn.self) s 0;
  count : length (numbers l.self-inside.members) ≡ l.fresh;
}
