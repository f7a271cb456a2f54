-- Lists of objects with distinct ids: one is put in its place, or taken out; one that others name changes, comes or goes.
use Rattle.std.proofs.Common.{◌≡◌, ℕ, ◌++◌, ◌∷◌, [], Bool, true, false, not, ◌||◌, cond, inl, inr, List, Option, Some, set, remove, slice_get, map, filter, find, is_some, zero, suc, refl, ap, sym, ◌∙◌, bytes_eq}
use Rattle.std.proofs.lemmas.Bool.{false≢true}
use Rattle.std.proofs.lemmas.Slice.Eq.{bytes_eq-Decides}
use Rattle.std.specs.List.{AllByRecursion, IsDistinct, list_any}
use Rattle.adr_model.specs.Lists.{In}
use Rattle.adr_keys.specs.declared.key.Key.{Key}
use Rattle.adr_audience.proofs.Matched.{bytes_eq-flip}

same_id : (a b : List ℕ) → a ≡ b → bytes_eq a b ≡ true
same_id a b e = (bytes_eq-Decides a b).1 e

-- ---- objects with distinct ids

module _ {X : Type 0} (key : X → List ℕ) where
  abbrev Apart : X → List X → Type 0
  Apart x xs = AllByRecursion (λ id. bytes_eq (key x) id ≡ false) (map key xs)

  distinct_first : (x : X) (xs : List X) → IsDistinct bytes_eq (map key (x ∷ xs)) → Apart x xs
  unfolding IsDistinct
  distinct_first x xs d = d.0

  distinct_rest : (x : X) (xs : List X) → IsDistinct bytes_eq (map key (x ∷ xs)) → IsDistinct bytes_eq (map key xs)
  unfolding IsDistinct
  distinct_rest x xs d = d.1

  apart_at : (x : X) (xs : List X) (p : ℕ) (r : X) → Apart x xs → slice_get xs p ≡ Some r → bytes_eq (key x) (key r) ≡ false
  apart_at x [] p r a e = absurd (cc)
  apart_at x (y ∷ ys) zero r a e = let q : y ≡ r = cc in ap (λ z. bytes_eq (key x) (key z)) (sym q) ∙ a.0
  apart_at x (y ∷ ys) (suc p) r a e = apart_at x ys p r a.1 e

  module _ (f : X → List Key) where
    put_apart : (new x : X) (xs : List X) → key x ≡ key new → Apart x xs → map f (map (λ y. cond (bytes_eq (key new) (key y)) new y) xs) ≡ map f xs
    put_apart new x [] e a = refl
    put_apart new x (y ∷ ys) e a =
        ap (λ b. f (cond b new y) ∷ map f (map (λ z. cond (bytes_eq (key new) (key z)) new z) ys)) (ap (λ i. bytes_eq i (key y)) (sym e) ∙ a.0)
        ∙ ap (λ zs. f y ∷ zs) (put_apart new x ys e a.1)

    drop_apart : (id : List ℕ) (x : X) (xs : List X) → key x ≡ id → Apart x xs → map f (filter (λ y. not (bytes_eq id (key y))) xs) ≡ map f xs
    drop_apart id x [] e a = refl
    drop_apart id x (y ∷ ys) e a =
        ap (λ b. map f (cond (not b) (y ∷ filter (λ z. not (bytes_eq id (key z))) ys) (filter (λ z. not (bytes_eq id (key z))) ys))) (ap (λ i. bytes_eq i (key y)) (sym e) ∙ a.0)
        ∙ ap (λ zs. f y ∷ zs) (drop_apart id x ys e a.1)

    pub put_at_place : (new : X) (xs : List X) (p : ℕ) (old : X) → IsDistinct bytes_eq (map key xs) → slice_get xs p ≡ Some old → key old ≡ key new
        → map f (map (λ y. cond (bytes_eq (key new) (key y)) new y) xs) ≡ set (map f xs) p (f new)
    put_at_place new [] p old d e i = absurd (cc)
    put_at_place new (x ∷ xs) zero old d e i =
        let q : x ≡ old = cc in
        let own : key x ≡ key new = ap key q ∙ i in
        ap (λ b. f (cond b new x) ∷ map f (map (λ z. cond (bytes_eq (key new) (key z)) new z) xs)) (same_id (key new) (key x) (sym own))
        ∙ ap (λ zs. f new ∷ zs) (put_apart new x xs own (distinct_first x xs d))
    put_at_place new (x ∷ xs) (suc p) old d e i =
        let other : bytes_eq (key new) (key x) ≡ false = bytes_eq-flip (key new) (key x) ∙ ap (bytes_eq (key x)) (sym i) ∙ apart_at x xs p old (distinct_first x xs d) e in
        ap (λ b. f (cond b new x) ∷ map f (map (λ z. cond (bytes_eq (key new) (key z)) new z) xs)) other
        ∙ ap (λ zs. f x ∷ zs) (put_at_place new xs p old (distinct_rest x xs d) e i)

    pub drop_at_place : (xs : List X) (p : ℕ) (r : X) → IsDistinct bytes_eq (map key xs) → slice_get xs p ≡ Some r
        → map f (filter (λ y. not (bytes_eq (key r) (key y))) xs) ≡ remove (map f xs) p
    drop_at_place [] p r d e = absurd (cc)
    drop_at_place (x ∷ xs) zero r d e =
        let q : x ≡ r = cc in
        let own : key x ≡ key r = ap key q in
        ap (λ b. map f (cond (not b) (x ∷ filter (λ z. not (bytes_eq (key r) (key z))) xs) (filter (λ z. not (bytes_eq (key r) (key z))) xs))) (same_id (key r) (key x) (sym own))
        ∙ drop_apart (key r) x xs own (distinct_first x xs d)
    drop_at_place (x ∷ xs) (suc p) r d e =
        let other : bytes_eq (key r) (key x) ≡ false = bytes_eq-flip (key r) (key x) ∙ apart_at x xs p r (distinct_first x xs d) e in
        ap (λ b. map f (cond (not b) (x ∷ filter (λ z. not (bytes_eq (key r) (key z))) xs) (filter (λ z. not (bytes_eq (key r) (key z))) xs))) other
        ∙ ap (λ zs. f x ∷ zs) (drop_at_place xs p r (distinct_rest x xs d) e)

  -- ---- an object that others name

  abbrev pub by_id : List ℕ → List X → Option X
  by_id id xs = find (λ x. bytes_eq id (key x)) xs

  abbrev pub put : X → List X → List X
  put new xs = map (λ y. cond (bytes_eq (key new) (key y)) new y) xs

  -- it changes
  pub found_own : (new : X) (xs : List X) → is_some (by_id (key new) xs) ≡ true → by_id (key new) (put new xs) ≡ Some new
  found_own new [] h = absurd (cc)
  found_own new (q ∷ qs) h = by (bytes_eq (key new) (key q)) refl (found_own new qs) h
    where
      by : (b : Bool) → bytes_eq (key new) (key q) ≡ b → (is_some (by_id (key new) qs) ≡ true → by_id (key new) (put new qs) ≡ Some new) → is_some (cond b (Some q) (by_id (key new) qs)) ≡ true
          → cond (bytes_eq (key new) (key (cond b new q))) (Some (cond b new q)) (by_id (key new) (put new qs)) ≡ Some new
      by true e rest k = ap (λ x. cond x (Some new) (by_id (key new) (put new qs))) (same_id (key new) (key new) refl)
      by false e rest k = ap (λ x. cond x (Some q) (by_id (key new) (put new qs))) e ∙ rest k

  pub found_other : (new : X) (id : List ℕ) (xs : List X) → bytes_eq (key new) id ≡ false → by_id id (put new xs) ≡ by_id id xs
  found_other new id [] h = refl
  found_other new id (q ∷ qs) h = by (bytes_eq (key new) (key q)) refl (found_other new id qs h)
    where
      apart : bytes_eq (key new) (key q) ≡ true → bytes_eq id (key q) ≡ false
      apart e = ap (bytes_eq id) (sym ((bytes_eq-Decides (key new) (key q)).0 e)) ∙ bytes_eq-flip id (key new) ∙ h

      by : (b : Bool) → bytes_eq (key new) (key q) ≡ b → by_id id (put new qs) ≡ by_id id qs
          → cond (bytes_eq id (key (cond b new q))) (Some (cond b new q)) (by_id id (put new qs)) ≡ cond (bytes_eq id (key q)) (Some q) (by_id id qs)
      by true e rest =
          ap (λ x. cond x (Some new) (by_id id (put new qs))) (bytes_eq-flip id (key new) ∙ h) ∙ rest
          ∙ sym (ap (λ x. cond x (Some q) (by_id id qs)) (apart e))
      by false e rest = ap (λ o. cond (bytes_eq id (key q)) (Some q) o) rest

  -- it comes
  pub found_before : (new : X) (id : List ℕ) (xs : List X) → is_some (by_id id xs) ≡ true → by_id id (xs ++ new ∷ []) ≡ by_id id xs
  found_before new id [] h = absurd (cc)
  found_before new id (v ∷ vs) h = by (bytes_eq id (key v)) h (found_before new id vs)
    where
      by : (b : Bool) → is_some (cond b (Some v) (by_id id vs)) ≡ true → (is_some (by_id id vs) ≡ true → by_id id (vs ++ new ∷ []) ≡ by_id id vs)
          → cond b (Some v) (by_id id (vs ++ new ∷ [])) ≡ cond b (Some v) (by_id id vs)
      by true k rest = refl
      by false k rest = rest k

  -- it goes
  pub found_beside : (gone id : List ℕ) (xs : List X) → bytes_eq gone id ≡ false → by_id id (filter (λ v. not (bytes_eq gone (key v))) xs) ≡ by_id id xs
  found_beside gone id [] h = refl
  found_beside gone id (v ∷ vs) h = by (bytes_eq gone (key v)) refl (found_beside gone id vs h)
    where
      apart : bytes_eq gone (key v) ≡ true → bytes_eq id (key v) ≡ false
      apart e = ap (bytes_eq id) (sym ((bytes_eq-Decides gone (key v)).0 e)) ∙ bytes_eq-flip id gone ∙ h

      by : (b : Bool) → bytes_eq gone (key v) ≡ b → by_id id (filter (λ x. not (bytes_eq gone (key x))) vs) ≡ by_id id vs
          → by_id id (cond (not b) (v ∷ filter (λ x. not (bytes_eq gone (key x))) vs) (filter (λ x. not (bytes_eq gone (key x))) vs))
          ≡ cond (bytes_eq id (key v)) (Some v) (by_id id vs)
      by true e rest = rest ∙ sym (ap (λ b. cond b (Some v) (by_id id vs)) (apart e))
      by false e rest = ap (λ o. cond (bytes_eq id (key v)) (Some v) o) rest

-- ---- rows that are the same for each object

pub same_rows : {X : Type 0} (f g : X → List Key) (xs : List X) → ((x : X) → In x xs → f x ≡ g x) → map f xs ≡ map g xs
same_rows f g [] h = refl
same_rows f g (r ∷ rs) h = ap (λ x. x ∷ map f rs) (h r (inl refl)) ∙ ap (λ xs. g r ∷ xs) (same_rows f g rs (λ q i. h q (inr i)))

or_none : (a b : Bool) → (a || b) ≡ false → (a ≡ false) × (b ≡ false)
or_none true b h = absurd (false≢true (sym h))
or_none false b h = (refl, h)

pub none_has : {X : Type 0} (test : X → Bool) (xs : List X) → list_any test xs ≡ false → (x : X) → In x xs → test x ≡ false
none_has test [] h x i = absurd i
none_has test (y ∷ ys) h x (inl e) = ap test (sym e) ∙ (or_none _ _ h).0
none_has test (y ∷ ys) h x (inr i) = none_has test ys (or_none _ _ h).1 x i
