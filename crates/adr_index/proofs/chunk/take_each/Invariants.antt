use Rattle.std.proofs.Common.{◌≡◌, ◌+◌, ◌-◌, ◌≤◌, ◌++◌, drop, length, take, vec_capacity}
use Rattle.adr_index.specs.Index.{others_all}
use Rattle.adr_index.proofs.chunk.take_each.Given as goal

abbrev pub invariant-loop-read : goal.invariant-loop-read
invariant-loop-read l = record {
  kept : l.kept ≤ l.read;
  read : l.read ≤ length l.entries.items;
  taken : l.taken ≤ length l.run;
  all : length l.entries.items ≡ length l.fn.entries.items;
  rest : drop l.read l.entries.items ≡ drop l.read l.fn.entries.items;
  entries : take l.kept l.entries.items ++ others_all (drop l.taken l.run) (drop l.read l.fn.entries.items) ≡ others_all l.run l.fn.entries.items;
  room : vec_capacity l.fn.entries ≤ vec_capacity l.entries;
}

abbrev pub decreases-loop-read : goal.decreases-loop-read
decreases-loop-read l = (length l.entries.items - l.read) + (length l.run - l.taken)
