-- Look-ups of another id, and of the same, in a changed list.
use Rattle.std.proofs.Common.{◌≡◌, ℕ, Bool, true, false, not, cond, if◌then◌else◌, List, [], ◌∷◌, ◌++◌, Option, Some, None, is_some, refl, ap, sym, subst, filter, ◌⊎◌, inl, inr}
use Rattle.std.specs.Str.{bytes_eq}
use Rattle.std.proofs.lemmas.Slice.Eq.{bytes_eq-Decides}
use Rattle.std.proofs.lemmas.Bool.{both_ways, false_from_ne_true}
use Rattle.adr_model.specs.Lists.{In}
use Rattle.adr_model.proofs.Lists.{same_bytes}
use Rattle.adr_model.proofs.Keyed.{by_key, put}

pub apart_flip : (a b : List ℕ) → bytes_eq a b ≡ false → bytes_eq b a ≡ false
apart_flip a b h = false_from_ne_true (bytes_eq b a) (λ t. both_ways (bytes_eq a b) h ((bytes_eq-Decides a b).1 (sym (same_bytes b a t))))

pub none_found : {X : Type 0} (o : Option X) → is_some o ≡ false → o ≡ None
none_found None h = refl
none_found (Some x) h = absurd (cc)

module _ {X : Type 0} (key : X → List ℕ) where
  pub push_other : (id : List ℕ) (x : X) (xs : List X) → bytes_eq id (key x) ≡ false → by_key key id (xs ++ x ∷ []) ≡ by_key key id xs
  push_other id x [] h = rw h
  push_other id x (y ∷ ys) h = ap (λ (o : Option X). cond (bytes_eq id (key y)) (Some y) o) (push_other id x ys h)

  pub push_found : (id : List ℕ) (x : X) (xs : List X) → is_some (by_key key id xs) ≡ true → by_key key id (xs ++ x ∷ []) ≡ by_key key id xs
  push_found id x [] h = absurd (cc)
  push_found id x (y ∷ ys) h = by (bytes_eq id (key y)) (push_found id x ys) h
    where
      by : (b : Bool) → (is_some (by_key key id ys) ≡ true → by_key key id (ys ++ x ∷ []) ≡ by_key key id ys)
          → is_some (cond b (Some y) (by_key key id ys)) ≡ true → cond b (Some y) (by_key key id (ys ++ x ∷ [])) ≡ cond b (Some y) (by_key key id ys)
      by true rest n = refl
      by false rest n = rest n

  pub put_other : (id : List ℕ) (x : X) (xs : List X) → bytes_eq (key x) id ≡ false → by_key key id (put key x xs) ≡ by_key key id xs
  unfolding put
  put_other id x [] h = refl
  put_other id x (y ∷ ys) h = by (bytes_eq (key x) (key y)) refl (put_other id x ys h)
    where
      by : (b : Bool) → bytes_eq (key x) (key y) ≡ b → by_key key id (put key x ys) ≡ by_key key id ys
          → cond (bytes_eq id (key (if b then x else y))) (Some (if b then x else y)) (by_key key id (put key x ys)) ≡ cond (bytes_eq id (key y)) (Some y) (by_key key id ys)
      by true t rest =
          let a : bytes_eq id (key x) ≡ false = apart_flip (key x) id h in
          let c : bytes_eq id (key y) ≡ false = subst (λ k. bytes_eq id k ≡ false) (same_bytes (key x) (key y) t) a in
          rw (a, c) rest
      by false t rest = ap (λ (o : Option X). cond (bytes_eq id (key y)) (Some y) o) rest

  -- what has the id of x in the list with x in its place is x
  pub put_own : (x : X) (xs : List X) (y : X) → In y (put key x xs) → bytes_eq (key x) (key y) ≡ true → x ≡ y
  unfolding put
  put_own x [] y m h = absurd m
  put_own x (u ∷ us) y m h = by (bytes_eq (key x) (key u)) refl (λ n. put_own x us y n h) m
    where
      by : (b : Bool) → bytes_eq (key x) (key u) ≡ b → (In y (put key x us) → x ≡ y) → ((if b then x else u) ≡ y) ⊎ In y (put key x us) → x ≡ y
      by true t rest (inl e) = e
      by false t rest (inl e) = absurd (both_ways (bytes_eq (key x) (key u)) t (subst (λ z. bytes_eq (key x) (key z) ≡ true) (sym e) h))
      by b t rest (inr n) = rest n

  pub drop_other : (gone id : List ℕ) (xs : List X) → bytes_eq gone id ≡ false → by_key key id (filter (λ x. not (bytes_eq gone (key x))) xs) ≡ by_key key id xs
  drop_other gone id [] h = refl
  drop_other gone id (y ∷ ys) h = by (bytes_eq gone (key y)) refl (drop_other gone id ys h)
    where
      by : (b : Bool) → bytes_eq gone (key y) ≡ b → by_key key id (filter (λ x. not (bytes_eq gone (key x))) ys) ≡ by_key key id ys
          → by_key key id (cond (not b) (y ∷ filter (λ x. not (bytes_eq gone (key x))) ys) (filter (λ x. not (bytes_eq gone (key x))) ys)) ≡ cond (bytes_eq id (key y)) (Some y) (by_key key id ys)
      by true t rest = let c : bytes_eq id (key y) ≡ false = subst (λ k. bytes_eq id k ≡ false) (same_bytes gone (key y) t) (apart_flip gone id h) in rw c rest
      by false t rest = ap (λ (o : Option X). cond (bytes_eq id (key y)) (Some y) o) rest

  pub drop_own : (gone : List ℕ) (xs : List X) → by_key key gone (filter (λ x. not (bytes_eq gone (key x))) xs) ≡ None
  drop_own gone [] = refl
  drop_own gone (y ∷ ys) = by (bytes_eq gone (key y)) refl (drop_own gone ys)
    where
      by : (b : Bool) → bytes_eq gone (key y) ≡ b → by_key key gone (filter (λ x. not (bytes_eq gone (key x))) ys) ≡ None
          → by_key key gone (cond (not b) (y ∷ filter (λ x. not (bytes_eq gone (key x))) ys) (filter (λ x. not (bytes_eq gone (key x))) ys)) ≡ None
      by true t rest = rest
      by false t rest = rw t rest
