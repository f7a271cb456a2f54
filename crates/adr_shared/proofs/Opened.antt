-- What a tree is, from its root's node.
use Rattle.std.proofs.Common.{◌≡◌, ℕ, List, ◌∷◌, ◌++◌, ◌+◌, ◌<◌, length, length-append, arith, sym, ap, ◌∙◌, subst, Global}
use Rattle.std.specs.Arc.{arc_value}
use Rattle.std.specs.declared.sync.Arc.{Arc}
use Rattle.adr_shared.specs.Map.{IsAscending}
use Rattle.adr_shared.specs.Node.{entries, entries_and_height, IsFork, IsRoot}
use Rattle.adr_shared.specs.declared.tree.Node.{Node}
use Rattle.adr_shared.specs.declared.tree.Root.{Root}
use Rattle.adr_shared.specs.declared.tree.Root.TheVariants.{Fork}

module _ {K V : Type 0} {root : Root K V} {height count : ℕ} {a : Arc (Node K V) Global} (n : Node K V) where
  -- what holds of the root's node
  pub node_holds : IsRoot root → root ≡ Fork height count a → n ≡ arc_value a → IsFork height count n
  node_holds holds is same = subst (λ m. IsFork height count m) (sym same) (subst IsRoot is holds)

  module _ {tree : List (List ℕ × V) × ℕ} where
    -- the entries are those of the sides, with the node's own between them
    pub opened : entries_and_height root ≡ tree → root ≡ Fork height count a → n ≡ arc_value a → tree ≡ (n.left.0 ++ n.entry ∷ n.right.0, height)
    opened view is same = sym view ∙ ap entries_and_height is ∙ ap (λ m. (entries m, height)) (sym same)

    -- and they are in order where the tree's are
    pub opened_ascends : entries_and_height root ≡ tree → root ≡ Fork height count a → n ≡ arc_value a → IsAscending tree.0 → IsAscending (n.left.0 ++ n.entry ∷ n.right.0)
    opened_ascends view is same s = subst (λ t. IsAscending t.0) (opened view is same) s

    -- each side has fewer entries
    pub left_shorter : entries_and_height root ≡ tree → root ≡ Fork height count a → n ≡ arc_value a → length n.left.0 < length tree.0
    left_shorter view is same = subst (λ t. length n.left.0 < length t.0) (sym (opened view is same)) (omega (arith, length-append n.left.0 (n.entry ∷ n.right.0)))

    pub right_shorter : entries_and_height root ≡ tree → root ≡ Fork height count a → n ≡ arc_value a → length n.right.0 < length tree.0
    right_shorter view is same = subst (λ t. length n.right.0 < length t.0) (sym (opened view is same)) (omega (arith, length-append n.left.0 (n.entry ∷ n.right.0)))

    -- the entries of the sides and the node's own are as many as the tree's
    pub parts_counted : entries_and_height root ≡ tree → root ≡ Fork height count a → n ≡ arc_value a → length tree.0 ≡ length n.left.0 + 1 + length n.right.0
    parts_counted view is same = ap (λ t. length t.0) (opened view is same) ∙ omega (arith, length-append n.left.0 (n.entry ∷ n.right.0))
