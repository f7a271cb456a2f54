-- What is made of a list, one element after the other.
use Rattle.std.proofs.Common.{◌≡◌, ℕ, ◌+◌, ◌<◌, ◌≤◌, List, [], ◌∷◌, ◌++◌, length, drop, get_or, ap, sym, ◌∙◌}
use Rattle.std.proofs.lemmas.List.{append_assoc, append-nil, drop_all, drop_more}

module _ {X Y : Type 0} (Made : List X → List Y) (xs : List X) (i : ℕ) (so_far total : List Y) (before : so_far ++ Made (drop i xs) ≡ total) where
  -- one more
  pub one_made : (x : X) (one new : List Y) → i < length xs → x ≡ get_or xs i x → Made (x ∷ drop (i + 1) xs) ≡ one ++ Made (drop (i + 1) xs) → new ≡ so_far ++ one
      → new ++ Made (drop (i + 1) xs) ≡ total
  one_made x one new lt is step grown =
      let here : drop i xs ≡ x ∷ drop (i + 1) xs = drop_more xs i x lt ∙ ap (λ (y : X). y ∷ drop (i + 1) xs) (sym is) in
      ap (λ (ys : List Y). ys ++ Made (drop (i + 1) xs)) grown
      ∙ append_assoc so_far one (Made (drop (i + 1) xs))
      ∙ ap (λ (ys : List Y). so_far ++ ys) (sym step ∙ ap Made (sym here))
      ∙ before

  -- all
  pub all_made : length xs ≤ i → Made [] ≡ [] → so_far ≡ total
  all_made le none = sym (append-nil so_far) ∙ ap (λ (ys : List Y). so_far ++ ys) (sym none ∙ ap Made (sym (drop_all i xs le))) ∙ before
