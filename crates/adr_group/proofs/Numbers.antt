-- Ascending numbers: what a search finds, and what a number put into its place or taken out leaves.
use Rattle.std.proofs.Common.{◌≡◌, ◌⊎◌, inl, inr, ℕ, suc, ◌+◌, ◌-◌, ◌<◌, ◌≤◌, Bool, true, false, not, cond, ◌&&◌, ◌||◌, List, [], ◌∷◌, Option, get_or, length, take, drop, filter, refl, ap, sym, subst, ◌∙◌, arith, eqb, eqb-true, if◌then◌else◌}
use Rattle.std.specs.List.{insert, list_any, dedup}
use Rattle.std.specs.Ordering.{nat_cmp}
use Rattle.std.specs.List.Sorted.{IsStrictlyIncreasing, IsBinarySearchResult, IsPermutation}
use Rattle.std.specs.Prelude.{Result, Ok, Err, MatchResult, is_ok}
use Rattle.std.proofs.lemmas.List.{take-append-drop}
use Rattle.std.proofs.lemmas.List.Edits.{length-insert, get_or-insert_below, get_or-insert_at, get_or-insert_above}
use Rattle.std.proofs.lemmas.List.Folds.{list_any-append, list_any_at}
use Rattle.std.proofs.lemmas.List.Sorted.{searched, list_any-IsPermutation}
use Rattle.std.proofs.lemmas.Map.Keys.{sorted_from_strictly_increasing, non_decreasing_from_sorted}
use Rattle.std.proofs.lemmas.Map.Views.{any-filter_same}
use Rattle.std.proofs.lemmas.Bool.{cases_lt}
use Rattle.adr_lines.specs.Right.{has_number}
use Rattle.adr_group.specs.Writes.{is_number, stays, changed_number}

-- ---- what a search finds

none_at : (xs : List ℕ) (n : ℕ) → ((k : ℕ) → k < length xs → get_or xs k 0 ≡ n → ⊥) → has_number xs n ≡ false
none_at [] n h = refl
none_at (x ∷ xs) n h = by (eqb x n) refl (none_at xs n (λ k lt e. h (suc k) (omega arith) e))
  where
    by : (b : Bool) → eqb x n ≡ b → has_number xs n ≡ false → (b || has_number xs n) ≡ false
    by true e rest = absurd (h 0 (omega arith) (eqb-true x n e))
    by false e rest = rest

same_self : (n : ℕ) → eqb n n ≡ true
same_self n = grind arith

-- where a search ends
abbrev EndsAt : List ℕ → ℕ → Result ℕ ℕ → Type 0
EndsAt xs n r = MatchResult r (λ i. (i < length xs) × (get_or xs i 0 ≡ n)) (λ i. (i ≤ length xs) × ((k : ℕ) → k < i → get_or xs k 0 < n) × ((k : ℕ) → i ≤ k → k < length xs → n < get_or xs k 0))

pub search_ends : (xs : List ℕ) (n : ℕ) (r : Result ℕ ℕ) → IsStrictlyIncreasing xs → IsBinarySearchResult (λ y. nat_cmp y n) xs r → EndsAt xs n r
search_ends xs n r up position = searched xs n r position (λ i j le lt. non_decreasing_from_sorted xs (sorted_from_strictly_increasing xs up) i j 0 le lt)

-- it answers whether the number is there
pub search_is : (xs : List ℕ) (n : ℕ) (r : Result ℕ ℕ) → IsStrictlyIncreasing xs → IsBinarySearchResult (λ y. nat_cmp y n) xs r → is_ok r ≡ has_number xs n
search_is xs n r up position = by r (search_ends xs n r up position)
  where
    elsewhere : (i k x : ℕ) → (k < i → x < n) → (i ≤ k → n < x) → x ≡ n → (k < i) ⊎ (i ≤ k) → ⊥
    elsewhere i k x low high e (inl lt) = let h : x < n = low lt in absurd (omega (arith, h, e))
    elsewhere i k x low high e (inr le) = let h : n < x = high le in absurd (omega (arith, h, e))

    by : (r : Result ℕ ℕ) → EndsAt xs n r → is_ok r ≡ has_number xs n
    by (Ok i) h = sym (list_any_at (λ x. eqb x n) xs i 0 h.0 (ap (λ x. eqb x n) h.1 ∙ same_self n))
    by (Err i) h = sym (none_at xs n (λ k lt e. elsewhere i k (get_or xs k 0) (h.1 k) (λ le. h.2 k le lt) e (cases_lt k i)))

-- ---- a number put into its place

module _ (xs : List ℕ) (i y : ℕ) (l : i ≤ length xs) where
  pub insert_rises : IsStrictlyIncreasing xs → ((k : ℕ) → k < i → get_or xs k 0 < y) → ((k : ℕ) → i ≤ k → k < length xs → y < get_or xs k 0) → IsStrictlyIncreasing (insert xs i y)
  insert_rises up low high k lt = by (cases_lt (k + 1) i) (cases_lt k i) (cases_lt i k)
    where
      long : length (insert xs i y) ≡ length xs + 1
      long = length-insert xs i y l

      past : (j : ℕ) → k ≡ j + 1 → i < k → get_or (insert xs i y) k 0 < get_or (insert xs i y) (k + 1) 0
      past j e h =
          let a : get_or (insert xs i y) k 0 ≡ get_or xs j 0 = ap (λ m. get_or (insert xs i y) m 0) e ∙ get_or-insert_above xs i y 0 j (omega (arith, h, e)) l in
          let b : get_or (insert xs i y) (k + 1) 0 ≡ get_or xs (j + 1) 0 = ap (λ m. get_or (insert xs i y) (m + 1) 0) e ∙ get_or-insert_above xs i y 0 (j + 1) (omega (arith, h, e)) l in
          let c : get_or xs j 0 < get_or xs (j + 1) 0 = up j (omega (arith, lt, long, e)) in
          omega (arith, a, b, c)

      by : (k + 1 < i) ⊎ (i ≤ k + 1) → (k < i) ⊎ (i ≤ k) → (i < k) ⊎ (k ≤ i) → get_or (insert xs i y) k 0 < get_or (insert xs i y) (k + 1) 0
      by (inl h) q r =
          let a : get_or (insert xs i y) k 0 ≡ get_or xs k 0 = get_or-insert_below xs i y 0 k (omega (arith, h)) l in
          let b : get_or (insert xs i y) (k + 1) 0 ≡ get_or xs (k + 1) 0 = get_or-insert_below xs i y 0 (k + 1) h l in
          let c : get_or xs k 0 < get_or xs (k + 1) 0 = up k (omega (arith, h, l)) in
          omega (arith, a, b, c)
      by (inr p) (inl q) r =
          let e : i ≡ k + 1 = omega (arith, p, q) in
          let a : get_or (insert xs i y) k 0 ≡ get_or xs k 0 = get_or-insert_below xs i y 0 k q l in
          let b : get_or (insert xs i y) (k + 1) 0 ≡ y = ap (λ m. get_or (insert xs i y) m 0) (sym e) ∙ get_or-insert_at xs i y 0 l in
          let c : get_or xs k 0 < y = low k q in
          omega (arith, a, b, c)
      by (inr p) (inr q) (inl r) = past (k - 1) (omega (arith, r)) r
      by (inr p) (inr q) (inr r) =
          let e : i ≡ k = omega (arith, q, r) in
          let a : get_or (insert xs i y) k 0 ≡ y = ap (λ m. get_or (insert xs i y) m 0) (sym e) ∙ get_or-insert_at xs i y 0 l in
          let b : get_or (insert xs i y) (k + 1) 0 ≡ get_or xs k 0 = get_or-insert_above xs i y 0 k q l in
          let c : y < get_or xs k 0 = high k q (omega (arith, lt, long)) in
          omega (arith, a, b, c)

  pub insert_has : (n : ℕ) → has_number (insert xs i y) n ≡ (eqb y n || has_number xs n)
  insert_has n =
      list_any-append is (take i xs) (y ∷ drop i xs)
      ∙ by (list_any is (take i xs)) (eqb y n) (list_any is (drop i xs))
      ∙ ap (λ b. eqb y n || b) (sym (list_any-append is (take i xs) (drop i xs)) ∙ ap (list_any is) (take-append-drop i xs))
    where
      is : ℕ → Bool
      is x = eqb x n

      by : (a b c : Bool) → (a || (b || c)) ≡ (b || (a || c))
      by true true c = refl
      by true false c = refl
      by false b c = refl

module _ (xs ys : List ℕ) (y : ℕ) (same : ys ≡ xs) (up : IsStrictlyIncreasing xs) where
  ends : (r : Result ℕ ℕ) → IsBinarySearchResult (λ z. nat_cmp z y) ys r → EndsAt xs y r
  ends r position = search_ends xs y r up (subst (λ ns. IsBinarySearchResult (λ z. nat_cmp z y) ns r) same position)

  pub put_rises : (zs : List ℕ) (i : ℕ) → zs ≡ insert xs i y → IsBinarySearchResult (λ z. nat_cmp z y) ys (Err i) → IsStrictlyIncreasing zs
  put_rises zs i is position = let h = ends (Err i) position in subst (λ ns. IsStrictlyIncreasing ns) (sym is) (insert_rises xs i y h.0 up h.1 h.2)

  pub put_has : (zs : List ℕ) (i : ℕ) → zs ≡ insert xs i y → IsBinarySearchResult (λ z. nat_cmp z y) ys (Err i) → (n : ℕ) → has_number zs n ≡ (eqb y n || has_number xs n)
  put_has zs i is position n = let h = ends (Err i) position in ap (λ ns. has_number ns n) is ∙ insert_has xs i y h.0 n

  pub found_has : (r : Result ℕ ℕ) → IsBinarySearchResult (λ z. nat_cmp z y) ys r → is_ok r ≡ has_number xs y
  found_has r position = search_is xs y r up (subst (λ ns. IsBinarySearchResult (λ z. nat_cmp z y) ns r) same position)

-- a search that finds no place to put it finds it
pub there_has : (xs : List ℕ) (y : ℕ) → has_number xs y ≡ true → (n : ℕ) → has_number xs n ≡ (eqb y n || has_number xs n)
there_has xs y h n = by (eqb y n) refl
  where
    by : (b : Bool) → eqb y n ≡ b → has_number xs n ≡ (b || has_number xs n)
    by true e = ap (λ m. has_number xs m) (sym (eqb-true y n e)) ∙ h
    by false e = refl

-- ---- a number taken out

pub staying_has : (xs : List ℕ) (gone : Option ℕ) (n : ℕ) → has_number (filter (stays gone) xs) n ≡ (if is_number gone n then false else has_number xs n)
staying_has xs gone n =
    any-filter_same (λ x. eqb x n) (stays gone) (stays gone n) (λ k e. ap (stays gone) (eqb-true k n e)) xs ∙ by (is_number gone n)
  where
    by : (b : Bool) → (not b && has_number xs n) ≡ (if b then false else has_number xs n)
    by true = refl
    by false = refl

pub changed_has : (xs kept zs : List ℕ) (gone come : Option ℕ) → kept ≡ filter (stays gone) xs → ((n : ℕ) → has_number zs n ≡ (is_number come n || has_number kept n))
    → (n : ℕ) → has_number zs n ≡ changed_number gone come xs n
changed_has xs kept zs gone come is has n =
    has n ∙ ap (λ b. is_number come n || b) (ap (λ ns. has_number ns n) is ∙ staying_has xs gone n) ∙ by (is_number come n)
  where
    by : (b : Bool) → (b || (if is_number gone n then false else has_number xs n)) ≡ (if b then true else if is_number gone n then false else has_number xs n)
    by true = refl
    by false = refl

-- ---- each number once

once : (x : ℕ) (xs : List ℕ) (n : ℕ) → has_number (dedup eqb (x ∷ xs)) n ≡ has_number (x ∷ xs) n
once x [] n = refl
once x (y ∷ ys) n = by (eqb y x) refl (once x ys n) (once y ys n)
  where
    twice : (a b : Bool) → (a || b) ≡ (a || (a || b))
    twice true b = refl
    twice false b = refl

    by : (b : Bool) → eqb y x ≡ b → has_number (dedup eqb (x ∷ ys)) n ≡ has_number (x ∷ ys) n → has_number (dedup eqb (y ∷ ys)) n ≡ has_number (y ∷ ys) n
        → has_number (cond b (dedup eqb (x ∷ ys)) (x ∷ dedup eqb (y ∷ ys))) n ≡ has_number (x ∷ (y ∷ ys)) n
    by true e first later =
        first ∙ twice (eqb x n) (has_number ys n)
        ∙ ap (λ m. eqb x n || (eqb m n || has_number ys n)) (sym (eqb-true y x e))
    by false e first later = ap (λ b. eqb x n || b) later

pub dedup_has : (xs : List ℕ) (n : ℕ) → has_number (dedup eqb xs) n ≡ has_number xs n
dedup_has [] n = refl
dedup_has (x ∷ xs) n = once x xs n

pub sorted_has : (xs ys zs : List ℕ) → IsPermutation xs ys → zs ≡ dedup eqb ys → (n : ℕ) → has_number zs n ≡ has_number xs n
sorted_has xs ys zs moved is n =
    ap (λ ws. has_number ws n) is ∙ dedup_has ys n ∙ sym (list_any-IsPermutation (λ x. eqb x n) xs ys moved)
