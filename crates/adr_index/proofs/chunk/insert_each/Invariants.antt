use Rattle.std.proofs.Common.{◌≡◌, ◌+◌, ◌≤◌, ◌++◌, drop, length, take, vec_capacity}
use Rattle.adr_index.specs.Index.{inserted_all}
use Rattle.adr_index.proofs.chunk.insert_each.Given as goal

abbrev pub invariant-loop-coming : goal.invariant-loop-coming
invariant-loop-coming l = record {
  left : l.left ≤ length l.fn.entries.items;
  coming : l.coming ≤ length l.run;
  all : length l.entries.items ≡ length l.fn.entries.items + length l.run;
  rest : take l.left l.entries.items ≡ take l.left l.fn.entries.items;
  entries : inserted_all (take l.coming l.run) (take l.left l.fn.entries.items) ++ drop (l.left + l.coming) l.entries.items ≡ inserted_all l.run l.fn.entries.items;
  room : vec_capacity l.fn.entries ≤ vec_capacity l.entries;
}

abbrev pub decreases-loop-coming : goal.decreases-loop-coming
decreases-loop-coming l = l.left + l.coming
