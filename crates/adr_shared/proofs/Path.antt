-- Steps of a look-up down the path to a code: what holds of a tree, from what holds of the side that comes next.
use Rattle.std.proofs.Common.{◌≡◌, ℕ, ◌+◌, List, ◌∷◌, ◌++◌, length, option_map, Option, Some, None, refl, sym, ap, ◌∙◌, subst, arith}
use Rattle.std.specs.declared.cmp.Ordering.TheVariants.{Less, Equal, Greater}
use Rattle.adr_shared.specs.Map.{code_cmp, IsAscending, lookup, place_of}
use Rattle.adr_shared.proofs.Parts.{parted, lookup_below, lookup_at, lookup_above, place_below, place_at, place_above}

-- a place among entries that so many others come before
abbrev pub place_past : ℕ → Option ℕ → Option ℕ
place_past passed place = option_map (λ p. passed + p) place

farther : (n m : ℕ) (o : Option ℕ) → place_past n (option_map (λ p. m + 1 + p) o) ≡ place_past (n + (m + 1)) o
farther n m None = refl
farther n m (Some p) = ap (λ k. Some k) (omega arith)

module _ {V : Type 0} {tree : List (List ℕ × V) × ℕ} {height : ℕ} (l : List (List ℕ × V)) (e : List ℕ × V) (r : List (List ℕ × V))
    (is : tree ≡ (l ++ e ∷ r, height)) (s : IsAscending tree.0) where
  ascends : IsAscending (l ++ e ∷ r)
  ascends = subst (λ t. IsAscending t.0) is s

  -- the sides are in order
  pub ascends_left : IsAscending l
  ascends_left = (parted l e r ascends).left

  pub ascends_right : IsAscending r
  ascends_right = (parted l e r ascends).right

  module _ (c : List ℕ) where
    -- the value at a code
    pub value_left : code_cmp c e.0 ≡ Less → lookup c l ≡ lookup c tree.0
    value_left h = sym (ap (λ t. lookup c t.0) is ∙ lookup_below c l e r h ascends)

    pub value_here : code_cmp c e.0 ≡ Equal → Some e.1 ≡ lookup c tree.0
    value_here h = sym (ap (λ t. lookup c t.0) is ∙ lookup_at c l e r h ascends)

    pub value_right : code_cmp c e.0 ≡ Greater → lookup c r ≡ lookup c tree.0
    value_right h = sym (ap (λ t. lookup c t.0) is ∙ lookup_above c l e r h ascends)

    -- the place of a code
    pub place_left : code_cmp c e.0 ≡ Less → place_of c l ≡ place_of c tree.0
    place_left h = sym (ap (λ t. place_of c t.0) is ∙ place_below c l e r h ascends)

    pub place_here : code_cmp c e.0 ≡ Equal → Some (length l) ≡ place_of c tree.0
    place_here h = sym (ap (λ t. place_of c t.0) is ∙ place_at c l e r h ascends)

    pub place_right : (n : ℕ) → code_cmp c e.0 ≡ Greater → place_past (n + (length l + 1)) (place_of c r) ≡ place_past n (place_of c tree.0)
    place_right n h = sym (ap (λ t. place_past n (place_of c t.0)) is ∙ ap (place_past n) (place_above c l e r h ascends) ∙ farther n (length l) (place_of c r))
