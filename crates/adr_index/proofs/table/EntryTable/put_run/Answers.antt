use Rattle.std.proofs.Common.{arith, take}
use Rattle.std.proofs.lemmas.List.{length-take-le}
use Rattle.adr_index.specs.Chunks.{all_listed}
use Rattle.adr_index.proofs.Runs.{length_put, new_first, ordered_put}
use Rattle.adr_index.proofs.Spent.{sure_spent}
use Rattle.adr_index.proofs.table.EntryTable.put_run.Goals as goal

pub returns-in-Some-clause-table : goal.returns-in-Some-clause-table
returns-in-Some-clause-table c = record {
  chunks = c.put_behind.ensures.chunks;
  order = rw c.in-Some.ensures.entries (ordered_put (take c.in-Some.given c.args.entries.now) (all_listed c.args.self.now.chunks.items) c.requires.table.order (new_first c.in-Some.given c.args.entries.now (all_listed c.args.self.now.chunks.items) c.requires.fresh));
  pool = c.requires.table.pool;
  sure = sure_spent c.in-Some.given c.args.self.now.spare c.args.self.now.chunks.items c.args.self.now.pool.items _ _ (c.in-Some.ensures.spends c.args.self.now.pool.items) c.requires.table.sure (omega (arith, c.requires.spare, c.in-Some.ensures.given));
  bound = omega (arith, c.requires.table.bound, c.requires.spare, c.in-Some.ensures.given);
  room = omega (arith, (c.in-Some.ensures.spends c.args.self.now.pool.items).sum, c.put_behind.ensures.room, c.requires.table.room);
  kept = omega (arith, (c.in-Some.ensures.spends c.args.self.now.pool.items).sum, c.requires.table.kept);
  count = rw (c.in-Some.ensures.entries, length_put (take c.in-Some.given c.args.entries.now) (all_listed c.args.self.now.chunks.items)) (omega (arith, c.requires.table.count, length-take-le c.in-Some.given c.args.entries.now c.in-Some.ensures.given));
}
