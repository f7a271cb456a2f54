use Rattle.adr_index.proofs.tree.+search.Given as goal

abbrev pub decreases-search : goal.decreases-search
decreases-search g l = l.levels
