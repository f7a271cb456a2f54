-- The heights of a tree's sides.
use Rattle.std.specs.Prelude.{ℕ, ◌+◌, ◌≤◌}

-- neither height is more than this above the other
abbrev pub DifferByAtMost : ℕ → ℕ → ℕ → Type 0
DifferByAtMost by l r = (l ≤ r + by) × (r ≤ l + by)
