use Rattle.adr_index.proofs.ByEnd.{searched_levels}
use Rattle.adr_index.proofs.chunk.EntryChunk.search.Goals as goal

pub search-requires-clause-ends : goal.search-requires-clause-ends
search-requires-clause-ends g c =
    let ends = c.requires.chunk.ends in
    rw (c.deref.ensures.value, c.deref-2.ensures.value) (searched_levels c.args.self.now.is_by_end ends.levels c.args.depth c.args.self.now.entries.items c.args.self.now.greatest.items ends.enough ends.searched)
