use Rattle.std.proofs.Common.{◌≡◌, ◌*◌, ◌≤◌, sum_by, take}
use Rattle.adr_model.specs.Edits.{distinct_types}
use Rattle.adr_store.proofs.counting.entry_count.Given as goal

-- what is counted of the intervals so far
abbrev pub invariant-loop-interval : goal.invariant-loop-interval
invariant-loop-interval l = record {
  counted : l.count ≡ sum_by (λ i. distinct_types i.payloads) (take l.interval-index l.intervals);
  bound : l.count ≤ 64 * l.interval-index;
}
