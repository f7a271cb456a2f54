use Rattle.adr_index.proofs.tops.+search_chunks.Given as goal

abbrev pub decreases-search_chunks : goal.decreases-search_chunks
decreases-search_chunks g l = l.levels
