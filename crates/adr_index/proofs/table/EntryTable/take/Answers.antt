use Rattle.std.proofs.Common.{arith, rules, ◌≡◌, [], length, sym, take}
use Rattle.adr_index.specs.Chunks.{all_listed}
use Rattle.adr_index.proofs.Merged.{others_none}
use Rattle.adr_index.proofs.Runs.{ordered_taken}
use Rattle.adr_index.proofs.Spent.{sure_kept}
use Rattle.adr_index.proofs.table.EntryTable.take.Goals as goal

pub returns-clause-table : goal.returns-clause-table
returns-clause-table c = record {
  chunks = c.take_among-count.ensures.chunks;
  order = rw c.take_among-count.ensures.entries (ordered_taken (take c.take_among-count.result.1.given c.args.entries.now) (all_listed c.args.self.now.chunks.items) c.requires.table.order);
  pool = c.take_among-count.ensures.pool;
  count = omega (arith, c.requires.table.count, c.take_among-count.ensures.count);
  sure = sure_kept c.args.self.now.spare c.args.self.now.chunks.items c.args.self.now.pool.items _ _ c.take_among-count.ensures.spends c.requires.table.sure;
  bound = omega (arith, c.requires.table.bound, c.requires.table.count, c.take_among-count.ensures.count);
  room = omega (arith, c.take_among-count.ensures.spends.sum, c.take_among-count.ensures.room, c.requires.table.room);
  kept = omega (arith, c.take_among-count.ensures.spends.sum, c.take_among-count.ensures.kept, c.requires.table.kept);
}

pub returns-then-is_empty-clause-entries : goal.returns-then-is_empty-clause-entries
returns-then-is_empty-clause-entries c =
    let none : c.args.self.now.chunks.items ≡ [] = search rules in
    rw none (sym (others_none (take (length c.args.entries.now) c.args.entries.now)))
