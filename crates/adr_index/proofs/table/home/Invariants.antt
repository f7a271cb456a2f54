use Rattle.std.proofs.Common.{◌≡◌, ◌+◌, ◌-◌, ◌<◌, ◌≤◌, true, length, take, drop}
use Rattle.std.specs.List.{AllByRecursion}
use Rattle.adr_model.specs.Entries.{is_listed_before}
use Rattle.adr_index.specs.Chunks.{all_listed}
use Rattle.adr_index.proofs.table.home.Given as goal

abbrev pub invariant-loop-low : goal.invariant-loop-low
invariant-loop-low l = record {
  between : l.low ≤ l.high;
  inside : l.high < length l.chunks;
  before : AllByRecursion (λ x. is_listed_before x l.entry ≡ true) (all_listed (take l.low l.chunks));
  after : AllByRecursion (λ x. is_listed_before l.entry x ≡ true) (all_listed (drop (l.high + 1) l.chunks));
}

abbrev pub decreases-loop-low : goal.decreases-loop-low
decreases-loop-low l = l.high - l.low
