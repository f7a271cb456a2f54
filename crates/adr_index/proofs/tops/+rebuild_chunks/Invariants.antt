use Rattle.adr_index.proofs.tops.+rebuild_chunks.Given as goal

abbrev pub decreases-rebuild_chunks : goal.decreases-rebuild_chunks
decreases-rebuild_chunks l = l.levels
