-- A list that is walked by place.
use Rattle.std.proofs.Common.{◌≡◌, ℕ, zero, suc, ◌+◌, ◌≤◌, List, [], ◌∷◌, ◌++◌, length, map, take, take_all, slice_get, refl, ap, add-one}
use Rattle.std.specs.Option.{option_map, option_map_or}

module _ {X Y : Type 0} (f : X → Y) where
  more : (xs : List X) (i : ℕ) → map f (take (suc i) xs) ≡ map f (take i xs) ++ option_map_or (λ y. y ∷ []) (option_map f (slice_get xs i)) []
  more [] zero = refl
  more [] (suc i) = refl
  more (x ∷ xs) zero = refl
  more (x ∷ xs) (suc i) = ap (λ ys. f x ∷ ys) (more xs i)

  -- one place more adds what the value there gives
  pub one_more : (xs : List X) (i : ℕ) → map f (take (i + 1) xs) ≡ map f (take i xs) ++ option_map_or (λ y. y ∷ []) (option_map f (slice_get xs i)) []
  one_more xs i = rw add-one (more xs i)

  pub all_passed : (xs : List X) (i : ℕ) → length xs ≤ i → map f (take i xs) ≡ map f xs
  all_passed xs i long = ap (map f) (take_all i xs long)
