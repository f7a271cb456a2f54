use Rattle.std.proofs.Common.{rules, ◌≡◌, length}
use Rattle.adr_index.proofs.Spent.{sure_places}
use Rattle.adr_index.proofs.table.EntryTable.places_for.Goals as goal

pub returns-clause-sure : goal.returns-clause-sure
returns-clause-sure c =
    let chunks : c.len-chunks.result ≡ length c.args.self.now.chunks.items = search rules in
    sure_places c.args.more c.chunks_for-wanted.result c.len.result c.args.self.now.chunks.items c.checked_add.result _ c.requires.chunks (rw chunks at c.chunks_for-wanted.ensures.sure) (rw (chunks, c.max.ensures) at c.checked_add.ensures)
