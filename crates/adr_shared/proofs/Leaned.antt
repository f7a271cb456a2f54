-- What turning a tree round twice makes of it: the same entries in the same order, at the height of the higher side.
use Rattle.std.proofs.Common.{◌≡◌, ℕ, ◌+◌, ◌≤◌, max, List, ◌∷◌, ◌++◌, append_assoc, Result, Ok, Err, sym, subst, arith}
use Rattle.adr_refusal.specs.Copy.{IsCopyOf}
use Rattle.adr_refusal.specs.declared.refusal.Refusal.{Refusal}
use Rattle.adr_shared.specs.Sides.{DifferByAtMost}
use Rattle.adr_shared.specs.Tree.{IsBalanced}
use Rattle.adr_shared.proofs.Edited.{IsBalancedHeight}

module _ {E : Type 0} where
  -- a left side whose right side is turned up between the two
  pub leaned_left : (left low high below above inner right other : List E × ℕ) (outer_entry inner_entry entry : E) (o i b a : ℕ)
      → left ≡ (low.0 ++ outer_entry ∷ inner.0, o) → inner ≡ (below.0 ++ inner_entry ∷ above.0, i)
      → right ≡ (low.0 ++ outer_entry ∷ below.0, b) → other ≡ (above.0 ++ entry ∷ high.0, a)
      → right.0 ++ inner_entry ∷ other.0 ≡ left.0 ++ entry ∷ high.0
  leaned_left left low high below above inner right other outer_entry inner_entry entry o i b a p q s t = rw (p, q, s, t) (simp append_assoc)

  -- and a right side whose left side is
  pub leaned_right : (right low high below above inner left other : List E × ℕ) (outer_entry inner_entry entry : E) (o i b a : ℕ)
      → right ≡ (inner.0 ++ outer_entry ∷ high.0, o) → inner ≡ (below.0 ++ inner_entry ∷ above.0, i)
      → left ≡ (low.0 ++ entry ∷ below.0, b) → other ≡ (above.0 ++ outer_entry ∷ high.0, a)
      → left.0 ++ inner_entry ∷ other.0 ≡ low.0 ++ entry ∷ right.0
  leaned_right right low high below above inner left other outer_entry inner_entry entry o i b a p q s t = rw (p, q, s, t) (simp append_assoc)

  -- a right side turned up once
  pub raised_right : (right low high left side : List E × ℕ) (outer_entry entry : E) (o s : ℕ)
      → right ≡ (low.0 ++ outer_entry ∷ high.0, o) → side ≡ (left.0 ++ entry ∷ low.0, s) → side.0 ++ outer_entry ∷ high.0 ≡ left.0 ++ entry ∷ right.0
  raised_right right low high left side outer_entry entry o s p q = rw (p, q) (simp append_assoc)

-- the height that it then has
pub raised_height : (l r a b s : ℕ) → r ≡ l + 2 → r ≡ max a b + 1 → DifferByAtMost 1 a b → a ≤ b → s ≡ max l a + 1 → IsBalancedHeight l r (max s b + 1)
raised_height l r a b s p q d e f = (omega (arith, d), omega (arith, d), λ n. absurd (omega (arith, n.1)))

-- two sides of one height, each with a lower part of the tree between them
pub level : (n a x y b : ℕ) → a ≡ n → x ≤ n → y ≤ n → b ≡ n → max (max a x + 1) (max y b + 1) + 1 ≡ n + 2
level n a x y b p q r s = omega arith

pub left_height : (l r h : ℕ) → l ≡ r + 2 → h ≡ r + 2 → IsBalancedHeight l r h
left_height l r h p q = (omega arith, omega arith, λ d. absurd (omega (arith, d.0)))

pub right_height : (l r h : ℕ) → r ≡ l + 2 → h ≡ l + 2 → IsBalancedHeight l r h
right_height l r h p q = (omega arith, omega arith, λ d. absurd (omega (arith, d.1)))

module _ {E : Type 0} where
  pub balanced : (result : Result (List E × ℕ) Refusal) (made left right : List E × ℕ) (entry : E)
      → made.0 ≡ left.0 ++ entry ∷ right.0 → IsBalancedHeight left.1 right.1 made.1 → IsCopyOf result made → IsBalanced result left entry right
  balanced (Ok tree) made left right entry same heights is =
      subst (λ t. (t.0 ≡ left.0 ++ entry ∷ right.0) × (max left.1 right.1 ≤ t.1) × (t.1 ≤ max left.1 right.1 + 1) × (DifferByAtMost 1 left.1 right.1 → t.1 ≡ max left.1 right.1 + 1))
      (sym is) (same, heights.0, heights.1, heights.2)
  balanced (Err refusal) made left right entry same heights is = is
