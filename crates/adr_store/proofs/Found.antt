-- Lists of values with keys and numbers of their own, after one is put in its place, taken out or added.
use Rattle.std.proofs.Common.{◌≡◌, ℕ, ◌+◌, ◌==◌, Bool, true, false, not, cond, List, [], ◌∷◌, ◌++◌, map, filter, find, sum_by, Option, Some, None, refl, ap, sym, subst, ◌∙◌, arith, eqb, eqb-true, eq-eqb, if◌then◌else◌, inl, inr}
use Rattle.std.specs.List.{AllByRecursion, IsDistinct}
use Rattle.std.specs.Str.{bytes_eq}
use Rattle.std.proofs.lemmas.List.Sums.{sum_by-cons}
use Rattle.adr_model.specs.Lists.{In}
use Rattle.adr_model.proofs.Lists.{same_bytes, In_from_each, In-map}
use Rattle.adr_store.proofs.Times.{same_test}

pub eqb_flip : (a b : ℕ) → (a == b) ≡ (b == a)
eqb_flip a b = same_test (a == b) (b == a) (λ h. eq-eqb b a (sym (eqb-true a b h))) (λ h. eq-eqb a b (sym (eqb-true b a h)))

module _ {X : Type 0} (key : X → List ℕ) (id : List ℕ) where
  -- no value has the key
  abbrev pub IsAbsent : List X → Type 0
  IsAbsent xs = AllByRecursion (λ x. bytes_eq id (key x) ≡ false) xs

  abbrev pub without_it : List X → List X
  without_it xs = filter (λ x. not (bytes_eq id (key x))) xs

  abbrev pub with_it : X → List X → List X
  with_it w xs = map (λ y. if bytes_eq id (key y) then w else y) xs

  abbrev pub the_one : List X → Option X
  the_one xs = find (λ x. bytes_eq id (key x)) xs

  -- of distinct keys, those after the one with the key have others
  after_own : (x : X) → bytes_eq id (key x) ≡ true → (xs : List X) → AllByRecursion (λ k. bytes_eq (key x) k ≡ false) (map key xs) → IsAbsent xs
  after_own x e [] h = tt
  after_own x e (y ∷ ys) h = (subst (λ k. bytes_eq k (key y) ≡ false) (sym (same_bytes id (key x) e)) h.0, after_own x e ys h.1)

  drop_absent : (xs : List X) → IsAbsent xs → without_it xs ≡ xs
  drop_absent [] h = refl
  drop_absent (x ∷ xs) h = rw h.0 (ap (λ ys. x ∷ ys) (drop_absent xs h.1))

  put_absent : (w : X) (xs : List X) → IsAbsent xs → with_it w xs ≡ xs
  put_absent w [] h = refl
  put_absent w (x ∷ xs) h = rw h.0 (ap (λ ys. x ∷ ys) (put_absent w xs h.1))

  is_absent : (xs : List X) → the_one xs ≡ None → IsAbsent xs
  is_absent [] h = tt
  is_absent (x ∷ xs) h = by (bytes_eq id (key x)) refl (is_absent xs) h
    where
      by : (b : Bool) → bytes_eq id (key x) ≡ b → (the_one xs ≡ None → IsAbsent xs) → cond b (Some x) (the_one xs) ≡ None → (bytes_eq id (key x) ≡ false) × IsAbsent xs
      by true e rest n = absurd (cc)
      by false e rest n = (e, rest n)

  -- where no value has the key, none is taken out
  pub without_none : (xs : List X) → the_one xs ≡ None → without_it xs ≡ xs
  without_none xs h = drop_absent xs (is_absent xs h)

  one_within : (xs : List X) (old : X) → the_one xs ≡ Some old → In old xs
  one_within [] old h = absurd (cc)
  one_within (x ∷ xs) old h = by (bytes_eq id (key x)) (one_within xs old) h
    where
      by : (b : Bool) → (the_one xs ≡ Some old → In old xs) → cond b (Some x) (the_one xs) ≡ Some old → In old (x ∷ xs)
      by true rest n = let same : x ≡ old = cc in inl same
      by false rest n = inr (rest n)

  module _ (f : X → ℕ) where
    pub sum_drop : (old : X) (xs : List X) → IsDistinct bytes_eq (map key xs) → the_one xs ≡ Some old → sum_by f (without_it xs) + f old ≡ sum_by f xs
    unfolding IsDistinct
    sum_drop old [] d h = absurd (cc)
    sum_drop old (x ∷ xs) d h = by (bytes_eq id (key x)) refl (sum_drop old xs d.1) h
      where
        by : (b : Bool) → bytes_eq id (key x) ≡ b → (the_one xs ≡ Some old → sum_by f (without_it xs) + f old ≡ sum_by f xs) → cond b (Some x) (the_one xs) ≡ Some old
            → sum_by f (cond (not b) (x ∷ without_it xs) (without_it xs)) + f old ≡ sum_by f (x ∷ xs)
        by true e rest n =
            let same : x ≡ old = cc in
            let gone : sum_by f (without_it xs) ≡ sum_by f xs = ap (sum_by f) (drop_absent xs (after_own x e xs d.0)) in
            let one : f x ≡ f old = ap f same in
            omega (arith, gone, one, sum_by-cons f x xs)
        by false e rest n = omega (arith, rest n, sum_by-cons f x xs, sum_by-cons f x (without_it xs))

    pub sum_put : (w old : X) (xs : List X) → IsDistinct bytes_eq (map key xs) → the_one xs ≡ Some old → sum_by f (with_it w xs) + f old ≡ sum_by f xs + f w
    unfolding IsDistinct
    sum_put w old [] d h = absurd (cc)
    sum_put w old (x ∷ xs) d h = by (bytes_eq id (key x)) refl (sum_put w old xs d.1) h
      where
        by : (b : Bool) → bytes_eq id (key x) ≡ b → (the_one xs ≡ Some old → sum_by f (with_it w xs) + f old ≡ sum_by f xs + f w) → cond b (Some x) (the_one xs) ≡ Some old
            → sum_by f (cond b w x ∷ with_it w xs) + f old ≡ sum_by f (x ∷ xs) + f w
        by true e rest n =
            let same : x ≡ old = cc in
            let kept : sum_by f (with_it w xs) ≡ sum_by f xs = ap (sum_by f) (put_absent w xs (after_own x e xs d.0)) in
            let one : f x ≡ f old = ap f same in
            omega (arith, kept, one, sum_by-cons f x xs, sum_by-cons f w (with_it w xs))
        by false e rest n = omega (arith, rest n, sum_by-cons f x xs, sum_by-cons f x (with_it w xs))

module _ {X : Type 0} (number : X → ℕ) where
  abbrev pub at : ℕ → List X → Option X
  at n xs = find (λ x. number x == n) xs

  no_number : (n : ℕ) (xs : List X) → AllByRecursion (λ k. eqb n k ≡ false) (map number xs) → at n xs ≡ None
  no_number n [] h = refl
  no_number n (x ∷ xs) h = rw (eqb_flip (number x) n ∙ h.0) (no_number n xs h.1)

  other_number : (x y : X) (n : ℕ) → eqb (number x) (number y) ≡ false → (number x == n) ≡ true → (number y == n) ≡ false
  other_number x y n ne e = eqb_flip (number y) n ∙ subst (λ k. eqb k (number y) ≡ false) (eqb-true (number x) n e) ne

  pub more_number : (w : X) (xs : List X) → at (number w) xs ≡ None → (n : ℕ) → at n (xs ++ w ∷ []) ≡ cond (number w == n) (Some w) (at n xs)
  more_number w [] h n = refl
  more_number w (x ∷ xs) h n = by (number x == number w) refl h (number x == n) refl (λ k. more_number w xs k n)
    where
      by : (a : Bool) → (number x == number w) ≡ a → cond a (Some x) (at (number w) xs) ≡ None → (b : Bool) → (number x == n) ≡ b
          → (at (number w) xs ≡ None → at n (xs ++ w ∷ []) ≡ cond (number w == n) (Some w) (at n xs))
          → cond b (Some x) (at n (xs ++ w ∷ [])) ≡ cond (number w == n) (Some w) (cond b (Some x) (at n xs))
      by true e k b t rest = absurd (cc)
      by false e k true t rest = rw (other_number x w n e t) refl
      by false e k false t rest = rest k

  module _ (key : X → List ℕ) (id : List ℕ) where
    pub drop_number : (old : X) (xs : List X) → IsDistinct bytes_eq (map key xs) → IsDistinct eqb (map number xs) → the_one key id xs ≡ Some old
        → (n : ℕ) → at n (without_it key id xs) ≡ cond (number old == n) None (at n xs)
    unfolding IsDistinct
    drop_number old [] d g h n = absurd (cc)
    drop_number old (x ∷ xs) d g h n = by (bytes_eq id (key x)) refl (λ k. drop_number old xs d.1 g.1 k n) h
      where
        here : (b : Bool) → (number x == n) ≡ b → at n xs ≡ cond b None (cond b (Some x) (at n xs))
        here true t = no_number n xs (subst (λ k. AllByRecursion (λ y. eqb k y ≡ false) (map number xs)) (eqb-true (number x) n t) g.0)
        here false t = refl

        later : (b : Bool) → (number x == n) ≡ b → the_one key id xs ≡ Some old → at n (without_it key id xs) ≡ cond (number old == n) None (at n xs)
            → cond b (Some x) (at n (without_it key id xs)) ≡ cond (number old == n) None (cond b (Some x) (at n xs))
        later true t k rest = rw (other_number x old n (In_from_each (λ y. eqb (number x) y ≡ false) (map number xs) g.0 (number old) (In-map number xs old (one_within key id xs old k))) t) refl
        later false t k rest = rest

        by : (b : Bool) → bytes_eq id (key x) ≡ b → (the_one key id xs ≡ Some old → at n (without_it key id xs) ≡ cond (number old == n) None (at n xs))
            → cond b (Some x) (the_one key id xs) ≡ Some old
            → at n (cond (not b) (x ∷ without_it key id xs) (without_it key id xs)) ≡ cond (number old == n) None (at n (x ∷ xs))
        by true e rest k =
            let same : x ≡ old = cc in
            ap (at n) (drop_absent key id xs (after_own key id x e xs d.0)) ∙ here (number x == n) refl ∙ ap (λ (y : X). cond (number y == n) None (at n (x ∷ xs))) same
        by false e rest k = later (number x == n) refl k (rest k)

    pub put_number : (w old : X) (xs : List X) → IsDistinct bytes_eq (map key xs) → IsDistinct eqb (map number xs) → the_one key id xs ≡ Some old → at (number w) xs ≡ None
        → (n : ℕ) → at n (with_it key id w xs) ≡ cond (number w == n) (Some w) (cond (number old == n) None (at n xs))
    unfolding IsDistinct
    put_number w old [] d g h f n = absurd (cc)
    put_number w old (x ∷ xs) d g h f n = by (bytes_eq id (key x)) refl (λ k u. put_number w old xs d.1 g.1 k u n) h (number x == number w) refl f
      where
        here : (b : Bool) → (number x == n) ≡ b → at n xs ≡ cond b None (cond b (Some x) (at n xs))
        here true t = no_number n xs (subst (λ k. AllByRecursion (λ y. eqb k y ≡ false) (map number xs)) (eqb-true (number x) n t) g.0)
        here false t = refl

        later : (b : Bool) → (number x == n) ≡ b → the_one key id xs ≡ Some old → eqb (number x) (number w) ≡ false
            → at n (with_it key id w xs) ≡ cond (number w == n) (Some w) (cond (number old == n) None (at n xs))
            → cond b (Some x) (at n (with_it key id w xs)) ≡ cond (number w == n) (Some w) (cond (number old == n) None (cond b (Some x) (at n xs)))
        later true t k ne rest =
            rw (other_number x w n ne t, other_number x old n (In_from_each (λ y. eqb (number x) y ≡ false) (map number xs) g.0 (number old) (In-map number xs old (one_within key id xs old k))) t) refl
        later false t k ne rest = rest

        by : (b : Bool) → bytes_eq id (key x) ≡ b
            → (the_one key id xs ≡ Some old → at (number w) xs ≡ None → at n (with_it key id w xs) ≡ cond (number w == n) (Some w) (cond (number old == n) None (at n xs)))
            → cond b (Some x) (the_one key id xs) ≡ Some old
            → (a : Bool) → (number x == number w) ≡ a → cond a (Some x) (at (number w) xs) ≡ None
            → at n (cond b w x ∷ with_it key id w xs) ≡ cond (number w == n) (Some w) (cond (number old == n) None (at n (x ∷ xs)))
        by true e rest k a t u =
            let same : x ≡ old = cc in
            ap (λ r. cond (number w == n) (Some w) r)
            (ap (at n) (put_absent key id w xs (after_own key id x e xs d.0)) ∙ here (number x == n) refl ∙ ap (λ (y : X). cond (number y == n) None (at n (x ∷ xs))) same)
        by false e rest k true t u = absurd (cc)
        by false e rest k false t u = later (number x == n) refl k t (rest k u)
