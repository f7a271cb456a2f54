use Rattle.std.proofs.Common.{◌≡◌, ◌+◌, ◌≤◌, length}
use Rattle.adr_model.specs.Edits.{distinct_types}
use Rattle.adr_store.proofs.counting.count_types.Given as goal

-- what is counted so far, and what is left to count
abbrev pub invariant-rest : goal.invariant-rest
invariant-rest l = record {
  counted : l.count + distinct_types l.rest ≡ distinct_types l.payloads;
  bound : l.count + length l.rest ≤ length l.payloads;
}

abbrev pub decreases-rest : goal.decreases-rest
decreases-rest l = length l.rest
