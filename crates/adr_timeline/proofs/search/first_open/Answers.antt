use Rattle.adr_timeline.proofs.Searched.{open_canonical, shown_open, until_listed}
use Rattle.adr_timeline.proofs.search.first_open.Goals as goal

pub first_open_chunk-requires : goal.first_open_chunk-requires
first_open_chunk-requires c = rw c.open_chunks.ensures (open_canonical c.args.at c.args.chunks.now c.requires.canonical)

pub returns-clause-winner : goal.returns-clause-winner
returns-clause-winner c = shown_open c.args.chunks.now c.open_chunks.result.now c.args.at c.first_open_chunk.result c.requires.canonical c.open_chunks.ensures c.first_open_chunk.ensures

pub returns-clause-change : goal.returns-clause-change
returns-clause-change c = until_listed c.args.chunks.now c.open_chunks.result.now c.args.at c.first_open_chunk.result c.requires.canonical c.open_chunks.ensures c.first_open_chunk.ensures
