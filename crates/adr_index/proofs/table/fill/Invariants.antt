use Rattle.std.proofs.Common.{◌-◌, ◌≤◌, length, vec_capacity}
use Rattle.adr_index.specs.Chunks.{ArePooled}
use Rattle.adr_index.proofs.table.fill.Given as goal

abbrev pub invariant-loop-alloc : goal.invariant-loop-alloc
invariant-loop-alloc l = record {
  pool : ArePooled l.pool.items;
  kept : length l.fn.pool.items ≤ length l.pool.items;
  most : length l.pool.items ≤ l.wanted;
  room : vec_capacity l.fn.pool ≤ vec_capacity l.pool;
}

abbrev pub decreases-loop-alloc : goal.decreases-loop-alloc
decreases-loop-alloc l = l.wanted - length l.pool.items
