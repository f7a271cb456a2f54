-- A list that is walked by place.
use Rattle.std.proofs.Common.{◌≡◌, ℕ, zero, suc, ◌+◌, ◌<◌, ◌≤◌, get_or, length, take_all, Bool, true, false, cond, List, [], ◌∷◌, ◌++◌, append-nil, append_assoc, take, slice_get, refl, sym, ap, ◌∙◌, filter, add-one}
use Rattle.std.specs.List.{flat_map}
use Rattle.std.proofs.lemmas.Grind.{flat_map-append, take_at_read}
use Rattle.std.specs.Option.{option_map_or}

module _ {X Y : Type 0} (f : X → List Y) where
  -- one place more adds what the element there gives
  more : (xs : List X) (i : ℕ) → flat_map f (take (suc i) xs) ≡ flat_map f (take i xs) ++ option_map_or f (slice_get xs i) []
  more [] zero = refl
  more [] (suc i) = refl
  more (x ∷ xs) zero = append-nil (f x)
  more (x ∷ xs) (suc i) = ap (λ ys. f x ++ ys) (more xs i) ∙ sym (append_assoc (f x) (flat_map f (take i xs)) (option_map_or f (slice_get xs i) []))

  pub one_more : (xs : List X) (i : ℕ) → flat_map f (take (i + 1) xs) ≡ flat_map f (take i xs) ++ option_map_or f (slice_get xs i) []
  one_more xs i = rw add-one (more xs i)

  -- so a list that grows by it goes on holding what all so far give
  pub walked_on : (start before later : List Y) (xs : List X) (i : ℕ) → before ≡ start ++ flat_map f (take i xs)
      → later ≡ before ++ option_map_or f (slice_get xs i) [] → later ≡ start ++ flat_map f (take (i + 1) xs)
  walked_on start before later xs i so_far grown =
      grown
      ∙ ap (λ ys. ys ++ option_map_or f (slice_get xs i) []) so_far
      ∙ append_assoc start (flat_map f (take i xs)) (option_map_or f (slice_get xs i) [])
      ∙ ap (λ ys. start ++ ys) (sym (one_more xs i))

  -- the same where an element is at hand
  pub passed_on : (start before later : List Y) (xs : List X) (i : ℕ) (x : X) → i < length xs → x ≡ get_or xs i x
      → before ≡ start ++ flat_map f (take i xs) → later ≡ before ++ f x → later ≡ start ++ flat_map f (take (i + 1) xs)
  passed_on start before later xs i x within is so_far grown =
      let step = ap (flat_map f) ((take_at_read xs i x within).1 ∙ ap (λ y. take i xs ++ y ∷ []) (sym is)) ∙ flat_map-append f (take i xs) (x ∷ []) in
      grown
      ∙ ap (λ ys. ys ++ f x) so_far
      ∙ append_assoc start (flat_map f (take i xs)) (f x)
      ∙ ap (λ ys. start ++ (flat_map f (take i xs) ++ ys)) (sym (append-nil (f x)))
      ∙ ap (λ ys. start ++ ys) (sym step)

  -- at the end all have given what they do
  pub whole_walk : (xs : List X) (n : ℕ) → length xs ≤ n → flat_map f (take n xs) ≡ flat_map f xs
  whole_walk xs n long = ap (flat_map f) (take_all n xs long)

module _ {X Y : Type 0} (f : X → List Y) (p : X → Bool) where
  kept : (b : Bool) (x : X) (xs : List X) (ys : List Y) → flat_map f (filter p xs) ≡ ys
      → flat_map f (cond b (x ∷ filter p xs) (filter p xs)) ≡ cond b (f x) [] ++ ys
  kept true x xs ys h = ap (λ zs. f x ++ zs) h
  kept false x xs ys h = h

  -- those that pass a test, one by one
  pub flat_map-filter : (xs : List X) → flat_map f (filter p xs) ≡ flat_map (λ x. cond (p x) (f x) []) xs
  flat_map-filter [] = refl
  flat_map-filter (x ∷ xs) = kept (p x) x xs (flat_map (λ y. cond (p y) (f y) []) xs) (flat_map-filter xs)
