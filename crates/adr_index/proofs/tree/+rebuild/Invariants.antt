use Rattle.adr_index.proofs.tree.+rebuild.Given as goal

abbrev pub decreases-rebuild : goal.decreases-rebuild
decreases-rebuild l = l.levels
