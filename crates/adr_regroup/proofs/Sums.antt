-- Sums.
use Rattle.std.proofs.Common.{◌≡◌, inl, inr, ℕ, zero, suc, ◌+◌, ◌≤◌, Bool, true, false, cond, List, [], ◌∷◌, length, map, filter, flat_map, slice_get, sum_by, Some, refl, ap, sym, ◌∙◌, arith}
use Rattle.std.proofs.lemmas.List.Sums.{sum_by-append, sum_by-cons}
use Rattle.std.specs.List.{range_with_len}
use Rattle.adr_model.specs.Lists.{In}
use Rattle.adr_regroup.specs.Compared.{sum_before, StandOnce}

module _ {X : Type 0} where
  pub sum_rises : (f g : X → ℕ) (xs : List X) → ((x : X) → In x xs → f x ≤ g x) → sum_by f xs ≤ sum_by g xs
  sum_rises f g [] h = omega arith
  sum_rises f g (x ∷ xs) h =
      let first = h x (inl refl) in
      let rest = sum_rises f g xs (λ y m. h y (inr m)) in
      omega (arith, first, rest, sum_by-cons f x xs, sum_by-cons g x xs)

  pub sum_two : (f g h : X → ℕ) (xs : List X) → ((x : X) → f x + g x ≤ h x) → sum_by f xs + sum_by g xs ≤ sum_by h xs
  sum_two f g h [] l = omega arith
  sum_two f g h (x ∷ xs) l =
      let first = l x in
      let rest = sum_two f g h xs l in
      omega (arith, first, rest, sum_by-cons f x xs, sum_by-cons g x xs, sum_by-cons h x xs)

  pub sum_nothing : (f : X → ℕ) (xs : List X) → ((x : X) → In x xs → f x ≡ 0) → sum_by f xs ≡ 0
  sum_nothing f [] h = refl
  sum_nothing f (x ∷ xs) h =
      let first = h x (inl refl) in
      let rest = sum_nothing f xs (λ y m. h y (inr m)) in
      omega (arith, first, rest, sum_by-cons f x xs)

  pub sum_flat : {Y : Type 0} (f : Y → ℕ) (g : X → List Y) (xs : List X) → sum_by f (flat_map g xs) ≡ sum_by (λ x. sum_by f (g x)) xs
  sum_flat f g [] = refl
  sum_flat f g (x ∷ xs) = sum_by-append f (g x) (flat_map g xs) ∙ ap (λ n. sum_by f (g x) + n) (sum_flat f g xs) ∙ sym (sum_by-cons (λ z. sum_by f (g z)) x xs)

  pub sum_map : {Y : Type 0} (f : Y → ℕ) (g : X → Y) (xs : List X) → sum_by f (map g xs) ≡ sum_by (λ x. f (g x)) xs
  sum_map f g [] = refl
  sum_map f g (x ∷ xs) = sum_by-cons f (g x) (map g xs) ∙ ap (λ n. f (g x) + n) (sum_map f g xs) ∙ sym (sum_by-cons (λ z. f (g z)) x xs)

  -- one of them is no more than all
  pub sum_has : (f : X → ℕ) (xs : List X) (x : X) → In x xs → f x ≤ sum_by f xs
  sum_has f [] x m = absurd m
  sum_has f (y ∷ ys) x (inl e) = let same : f y ≡ f x = ap f e in omega (arith, same, sum_by-cons f y ys)
  sum_has f (y ∷ ys) x (inr m) = omega (arith, sum_has f ys x m, sum_by-cons f y ys)

-- ---- numbers before one

sum_from_first : (f : ℕ → ℕ) (n : ℕ) → sum_before f (suc n) ≡ f 0 + sum_before (λ k. f (suc k)) n
sum_from_first f zero = omega arith
sum_from_first f (suc n) = let r : sum_before f (suc n) ≡ f 0 + sum_before (λ k. f (suc k)) n = sum_from_first f n in omega (arith, r)

sum_same : (f g : ℕ → ℕ) (n : ℕ) → ((p : ℕ) → f p ≡ g p) → sum_before f n ≤ sum_before g n
sum_same f g zero h = omega arith
sum_same f g (suc n) h = let first = h n in let rest = sum_same f g n h in omega (arith, first, rest)

-- places of a list cost no more than what stands there
pub sum_places : {X : Type 0} (f : ℕ → ℕ) (g : X → ℕ) (xs : List X) → ((p : ℕ) (x : X) → slice_get xs p ≡ Some x → f p ≤ g x) → sum_before f (length xs) ≤ sum_by g xs
sum_places f g [] h = omega arith
sum_places f g (x ∷ xs) h =
    let first = h 0 x refl in
    let rest = sum_places (λ k. f (suc k)) g xs (λ p y at. h (suc p) y at) in
    omega (arith, first, rest, sum_from_first f (length xs), sum_by-cons g x xs)

pub none_stand : (n : ℕ) → StandOnce [] n
none_stand n cost = omega arith

pub sums_before : (f g h : ℕ → ℕ) (n : ℕ) → ((p : ℕ) → f p + g p ≤ h p) → sum_before f n + sum_before g n ≤ sum_before h n
sums_before f g h zero l = omega arith
sums_before f g h (suc n) l = let first = l n in let rest = sums_before f g h n l in omega (arith, first, rest)

-- those of a range that pass stand once
range_sum : (f : ℕ → ℕ) (t : ℕ → Bool) (a n : ℕ) → sum_by f (filter t (range_with_len a n)) ≤ sum_before (λ k. f (a + k)) n
range_sum f t a zero = omega arith
range_sum f t a (suc n) = by (t a) (range_sum f t (a + 1) n)
  where
    here : f (a + 0) ≡ f a
    here = let none : a + 0 ≡ a = omega arith in ap f none

    next : sum_before (λ k. f (a + 1 + k)) n ≤ sum_before (λ k. f (a + suc k)) n
    next = sum_same (λ k. f (a + 1 + k)) (λ k. f (a + suc k)) n (λ k. (let same : a + 1 + k ≡ a + suc k = omega arith in ap f same))

    by : (b : Bool) → sum_by f (filter t (range_with_len (a + 1) n)) ≤ sum_before (λ k. f (a + 1 + k)) n
        → sum_by f (cond b (a ∷ filter t (range_with_len (a + 1) n)) (filter t (range_with_len (a + 1) n))) ≤ sum_before (λ k. f (a + k)) (suc n)
    by true rest = omega (arith, rest, here, next, sum_from_first (λ k. f (a + k)) n, sum_by-cons f a (filter t (range_with_len (a + 1) n)))
    by false rest = omega (arith, rest, next, sum_from_first (λ k. f (a + k)) n)

pub range_stands : (t : ℕ → Bool) (n : ℕ) → StandOnce (filter t (range_with_len 0 n)) n
range_stands t n cost =
    let few = range_sum cost t 0 n in
    let same = sum_same (λ k. cost (0 + k)) cost n (λ k. (let none : 0 + k ≡ k = omega arith in ap cost none)) in
    omega (arith, few, same)
