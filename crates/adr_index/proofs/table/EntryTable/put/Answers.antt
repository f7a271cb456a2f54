use Rattle.std.proofs.Common.{arith}
use Rattle.adr_index.proofs.Ordered.{length_inserted, ordered_inserted}
use Rattle.adr_index.proofs.Spent.{sure_spent}
use Rattle.adr_index.specs.Chunks.{all_listed}
use Rattle.adr_index.proofs.table.EntryTable.put.Goals as goal

pub returns-clause-table : goal.returns-clause-table
returns-clause-table c = record {
  chunks = c.put_any-changed.ensures.chunks;
  order = rw c.put_any-changed.ensures.entries (ordered_inserted c.args.entry (all_listed c.args.self.now.chunks.items) c.requires.table.order c.requires.fresh);
  pool = c.put_any-changed.ensures.pool;
  count = rw (c.put_any-changed.ensures.entries, length_inserted c.args.entry (all_listed c.args.self.now.chunks.items)) (omega (arith, c.requires.table.count));
  sure = sure_spent 1 c.args.self.now.spare c.args.self.now.chunks.items c.args.self.now.pool.items _ _ c.put_any-changed.ensures.spends c.requires.table.sure (omega (arith, c.requires.spare));
  bound = omega (arith, c.requires.table.bound, c.requires.spare);
  room = omega (arith, c.put_any-changed.ensures.spends.sum, c.put_any-changed.ensures.room, c.requires.table.room);
  kept = omega (arith, c.put_any-changed.ensures.spends.sum, c.put_any-changed.ensures.kept, c.requires.table.kept);
}
