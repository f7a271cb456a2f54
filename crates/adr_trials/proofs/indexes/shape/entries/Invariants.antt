use Rattle.std.proofs.Common.{◌≡◌, length}
use Rattle.adr_trials.specs.Numbers.{AreRising}
use Rattle.adr_trials.proofs.indexes.shape.entries.Given as goal

abbrev pub invariant-loop-place : goal.invariant-loop-place
invariant-loop-place l = record {
  rising : AreRising l.first l.entries.items;
  length : length l.entries.items ≡ l.place;
}
