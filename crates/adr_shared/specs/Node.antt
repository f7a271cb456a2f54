-- What a tree's root is seen as, and what holds of it.
use Rattle.std.specs.Prelude.{◌≡◌, ℕ, ◌+◌, ◌/◌, ◌^◌, ◌<◌, ◌≤◌, max, length, List, [], ◌∷◌, ◌++◌}
use Rattle.std.specs.Arc.{arc_value}
use Rattle.adr_shared.specs.Sides.{DifferByAtMost}
use Rattle.adr_shared.specs.declared.tree.Node.{Node}
use Rattle.adr_shared.specs.declared.tree.Root.{Root}
use Rattle.adr_shared.specs.declared.tree.Root.TheVariants.{Empty, Fork}

-- a node's entry between those of its sides
abbrev pub entries : {K V : Type 0} → Node K V → List (List ℕ × V)
entries node = node.left.0 ++ node.entry ∷ node.right.0

-- the entries in order, and the height
abbrev pub entries_and_height : {K V : Type 0} → Root K V → List (List ℕ × V) × ℕ
entries_and_height Empty = ([], 0)
entries_and_height (Fork height count node) = (entries (arc_value node), height)

-- the sides differ by at most one, the height and the count are right, the height is at least the logarithm of one more than the count and at most twice that, and the count has 32 bits
abbrev pub IsFork : {K V : Type 0} → ℕ → ℕ → Node K V → Type 0
IsFork height count node =
    DifferByAtMost 1 node.left.1 node.right.1
    × (height ≡ max node.left.1 node.right.1 + 1)
    × (count ≡ length node.left.0 + 1 + length node.right.0)
    × (2 ^ (height / 2) ≤ count + 1)
    × (count < 2 ^ height)
    × (count < 2 ^ 32)

-- what holds of a root: of an empty one nothing
abbrev pub IsRoot : {K V : Type 0} → Root K V → Type 0
IsRoot Empty = Unit {0}
IsRoot (Fork height count node) = IsFork height count (arc_value node)
