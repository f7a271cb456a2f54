use Rattle.std.proofs.Common.{◌-◌, ◌<◌, ◌≤◌, length, take}
use Rattle.adr_index.specs.Chunks.{GoTogether}
use Rattle.adr_index.proofs.table.run_into.Given as goal

abbrev pub invariant-loop-count : goal.invariant-loop-count
invariant-loop-count l = record {
  some : 0 < l.count;
  inside : l.count ≤ length l.entries;
  together : GoTogether l.chunk (take l.count l.entries);
}

abbrev pub decreases-loop-count : goal.decreases-loop-count
decreases-loop-count l = length l.entries - l.count
