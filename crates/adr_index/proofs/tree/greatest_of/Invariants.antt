use Rattle.std.proofs.Common.{◌≡◌, ◌||◌, drop, ℤ}
use Rattle.adr_index.specs.Tree.{any_lasts, comes_after}
use Rattle.adr_index.proofs.tree.greatest_of.Given as goal

abbrev pub invariant-loop-entry : goal.invariant-loop-entry
invariant-loop-entry l = (t : ℤ) → (comes_after l.greatest t || any_lasts (drop l.entry-index l.entries) t) ≡ any_lasts l.entries t
