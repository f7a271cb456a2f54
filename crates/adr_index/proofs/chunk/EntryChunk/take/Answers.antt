use Rattle.std.proofs.Common.{rules, ◌≡◌}
use Rattle.adr_index.specs.Index.{others_all}
use Rattle.adr_index.proofs.ByEnd.{by_end_others, told_by_end}
use Rattle.adr_index.proofs.chunk.EntryChunk.take.Goals as goal

pub refresh_left-requires-clause-order : goal.refresh_left-requires-clause-order
refresh_left-requires-clause-order c = λ told.
    let left : c.take_each.new.entries.items ≡ others_all c.args.run.now c.args.self.now.entries.items = search rules in
    rw left (by_end_others c.args.run.now c.args.self.now.entries.items (told_by_end c.args.self.now.is_by_end c.args.self.now.entries.items c.args.self.now.greatest.items told c.requires.chunk.ends))
