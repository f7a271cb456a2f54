-- What an edit of a side, balanced again, makes of a tree.
use Rattle.std.proofs.Common.{◌≡◌, ℕ, ◌+◌, ◌-◌, ◌≤◌, max, List, ◌∷◌, ◌++◌, Result, Ok, Err, sym, subst, ◌∙◌, arith}
use Rattle.adr_refusal.specs.Copy.{IsCopyOf}
use Rattle.adr_refusal.specs.declared.refusal.Refusal.{Refusal}
use Rattle.adr_shared.specs.Sides.{DifferByAtMost}
use Rattle.adr_shared.specs.Tree.{IsEdited, IsBalanced}

-- a height h that sides of heights l and r are balanced to
abbrev pub IsBalancedHeight : ℕ → ℕ → ℕ → Type 0
IsBalancedHeight l r h = (max l r ≤ h) × (h ≤ max l r + 1) × (DifferByAtMost 1 l r → h ≡ max l r + 1)

module _ {V : Type 0} where
  pub rebalanced : (result : Result (List (List ℕ × V) × ℕ) Refusal) (left right : List (List ℕ × V) × ℕ) (entry : List ℕ × V) (entries : List (List ℕ × V)) (low high : ℕ)
      → entries ≡ left.0 ++ entry ∷ right.0 → ((h : ℕ) → IsBalancedHeight left.1 right.1 h → (low ≤ h) × (h ≤ high))
      → IsBalanced result left entry right → IsEdited result entries low high
  rebalanced (Ok tree) left right entry entries low high same heights b =
      let p = heights tree.1 (b.1, b.2, b.3) in (b.0 ∙ sym same, p.0, p.1)
  rebalanced (Err refusal) left right entry entries low high same heights b = b

  pub retold : (result : Result (List (List ℕ × V) × ℕ) Refusal) (entries others : List (List ℕ × V)) (low high least most : ℕ)
      → others ≡ entries → least ≤ low → high ≤ most → IsEdited result entries low high → IsEdited result others least most
  retold (Ok tree) entries others low high least most same l h b = (b.0 ∙ sym same, omega (arith, b.1), omega (arith, b.2))
  retold (Err refusal) entries others low high least most same l h b = b

  pub forked : (result : Result (List (List ℕ × V) × ℕ) Refusal) (tree : List (List ℕ × V) × ℕ) (entries : List (List ℕ × V)) (low high : ℕ)
      → entries ≡ tree.0 → low ≤ tree.1 → tree.1 ≤ high → IsCopyOf result tree → IsEdited result entries low high
  forked (Ok made) tree entries low high same l h b = subst (λ t. (t.0 ≡ entries) × (low ≤ t.1) × (t.1 ≤ high)) (sym b) (sym same, l, h)
  forked (Err refusal) tree entries low high same l h b = b

-- a side one higher at most
pub left_raised : (l r x h : ℕ) → DifferByAtMost 1 l r → l ≤ x → x ≤ l + 1 → IsBalancedHeight x r h → (max l r + 1 ≤ h) × (h ≤ max l r + 1 + 1)
left_raised l r x h d p q b = (grind (arith), grind (arith))

pub right_raised : (l r x h : ℕ) → DifferByAtMost 1 l r → r ≤ x → x ≤ r + 1 → IsBalancedHeight l x h → (max l r + 1 ≤ h) × (h ≤ max l r + 1 + 1)
right_raised l r x h d p q b = (grind (arith), grind (arith))

-- a side one lower at most
pub left_lowered : (l r x h : ℕ) → DifferByAtMost 1 l r → l - 1 ≤ x → x ≤ l → IsBalancedHeight x r h → (max l r ≤ h) × (h ≤ max l r + 1)
left_lowered l r x h d p q b = (grind (arith), grind (arith))

pub right_lowered : (l r x h : ℕ) → DifferByAtMost 1 l r → r - 1 ≤ x → x ≤ r → IsBalancedHeight l x h → (max l r ≤ h) × (h ≤ max l r + 1)
right_lowered l r x h d p q b = (grind (arith), grind (arith))
