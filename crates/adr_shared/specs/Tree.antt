-- What the functions on trees promise: a tree is its entries in order, and its height.
use Rattle.std.specs.Prelude.{◌≡◌, ℕ, ◌+◌, ◌≤◌, max, List, [], ◌∷◌, ◌++◌, Option, Result, MatchResult, MatchOption}
use Rattle.adr_refusal.specs.declared.refusal.Refusal.{Refusal}
use Rattle.adr_refusal.specs.declared.refusal.Refusal.TheVariants.{NoMemory}
use Rattle.adr_shared.specs.Sides.{DifferByAtMost}
use Rattle.adr_shared.specs.declared.tree.First.{First}

-- the result has these entries and a height from low up to high, and only want of memory refuses it
abbrev pub IsEdited : {E : Type 0} → Result (List E × ℕ) Refusal → List E → ℕ → ℕ → Type 0
IsEdited result entries low high =
    MatchResult result (λ tree. (tree.0 ≡ entries) × (low ≤ tree.1) × (tree.1 ≤ high)) (λ refusal. refusal ≡ NoMemory)

-- the result has the entries of both sides round the entry, it is as high as the higher side or one level higher, and one higher where they differ by at most one
abbrev pub IsBalanced : {E : Type 0} → Result (List E × ℕ) Refusal → List E × ℕ → E → List E × ℕ → Type 0
IsBalanced result left entry right =
    MatchResult result
    (λ tree. (tree.0 ≡ left.0 ++ entry ∷ right.0) × (max left.1 right.1 ≤ tree.1) × (tree.1 ≤ max left.1 right.1 + 1)
    × (DifferByAtMost 1 left.1 right.1 → tree.1 ≡ max left.1 right.1 + 1))
    (λ refusal. refusal ≡ NoMemory)

-- the first entry and the rest, which is as high as the tree or one lower; none where the tree has none
abbrev pub IsSplit : {K V : Type 0} → List (List ℕ × V) × ℕ → Option (First K V) → Type 0
IsSplit tree split =
    MatchOption split ((tree.0 ≡ []) × (tree.1 ≡ 0))
    (λ first. (tree.0 ≡ first.entry ∷ first.rest.0) × (first.rest.1 ≤ tree.1) × (tree.1 ≤ first.rest.1 + 1))
