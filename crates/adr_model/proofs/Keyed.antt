-- Lists of objects with keys: look-ups, and the ways to change such a list (one more, one put in its place, one taken out).
use Rattle.std.proofs.Common.{◌≡◌, ℕ, Bool, true, false, not, ◌||◌, cond, if◌then◌else◌, List, [], ◌∷◌, ◌++◌, map, Option, Some, None, is_some, refl, ap, ap₂, sym, subst, ◌∙◌, filter, find, ◌⊎◌, inl, inr}
use Rattle.std.specs.List.{AllByRecursion, IsDistinct}
use Rattle.std.specs.Str.{bytes_eq}
use Rattle.std.proofs.lemmas.Slice.Eq.{bytes_eq-Decides}
use Rattle.std.proofs.lemmas.Bool.{or_parts, both_ways, false_from_ne_true, not_from_false}
use Rattle.adr_object.specs.declared.party.Program.{Program}
use Rattle.adr_object.specs.declared.party.Ven.{Ven}
use Rattle.adr_object.specs.declared.party.Resource.{Resource}
use Rattle.adr_model.specs.declared.written.Written.{Written}
use Rattle.adr_model.specs.Lists.{In}
use Rattle.adr_model.proofs.Lists.{has, has_from_In, In_from_has, In-map, In-from_map, In-append_left, In-append_cases, In-filter, In-from_filter, In_from_each, each_from_In, same_bytes, bytes_eq_self}

-- ---- look-ups by key

module _ {X : Type 0} (key : X → List ℕ) where
  -- the first with that key
  abbrev pub by_key : List ℕ → List X → Option X
  by_key id xs = find (λ x. bytes_eq id (key x)) xs

  pub absent : (id : List ℕ) (xs : List X) → has (map key xs) id ≡ false → by_key id xs ≡ None
  absent id [] h = refl
  absent id (x ∷ xs) h = let p = or_parts (bytes_eq id (key x)) (has (map key xs) id) h in rw p.0 (absent id xs p.1)

  pub found : (id : List ℕ) (xs : List X) (x : X) → by_key id xs ≡ Some x → In x xs × (key x ≡ id)
  found id [] x h = absurd (cc)
  found id (y ∷ ys) x h = by (bytes_eq id (key y)) refl (found id ys x) h
    where
      by : (b : Bool) → bytes_eq id (key y) ≡ b → (by_key id ys ≡ Some x → In x ys × (key x ≡ id)) → cond b (Some y) (by_key id ys) ≡ Some x → In x (y ∷ ys) × (key x ≡ id)
      by true t later e = let s : y ≡ x = cc in (inl s, ap key (sym s) ∙ sym (same_bytes id (key y) t))
      by false t later e = let r = later e in (inr r.0, r.1)

  -- of distinct keys, each leads to its own element
  pub own_key : (xs : List X) → IsDistinct bytes_eq (map key xs) → (x : X) → In x xs → by_key (key x) xs ≡ Some x
  unfolding IsDistinct
  own_key [] d x m = absurd m
  own_key (y ∷ ys) d x (inl e) = subst (λ (z : X). by_key (key z) (y ∷ ys) ≡ Some z) e (let h = bytes_eq_self (key y) in rw h)
  own_key (y ∷ ys) d x (inr m) =
      let apart : bytes_eq (key x) (key y) ≡ false =
      false_from_ne_true (bytes_eq (key x) (key y)) (λ t. both_ways (bytes_eq (key y) (key x)) (other ys d.0 m) ((bytes_eq-Decides (key y) (key x)).1 (sym (same_bytes (key x) (key y) t)))) in
      rw apart (own_key ys d.1 x m)
    where
      other : (zs : List X) → AllByRecursion (λ k. bytes_eq (key y) k ≡ false) (map key zs) → In x zs → bytes_eq (key y) (key x) ≡ false
      other [] a n = absurd n
      other (z ∷ zs) a (inl e) = subst (λ (v : X). bytes_eq (key y) (key v) ≡ false) e a.0
      other (z ∷ zs) a (inr n) = other zs a.1 n

-- ---- keys that differ

module _ {X K : Type 0} (e : K → K → Bool) (key : X → K) where
  pub distinct_filter : (t : X → Bool) (xs : List X) → IsDistinct e (map key xs) → IsDistinct e (map key (filter t xs))
  unfolding IsDistinct
  distinct_filter t [] d = tt
  distinct_filter t (x ∷ xs) d = by (t x) (distinct_filter t xs d.1)
    where
      by : (b : Bool) → IsDistinct e (map key (filter t xs)) → IsDistinct e (map key (cond b (x ∷ filter t xs) (filter t xs)))
      by true rest = (
        each_from_In (λ y. e (key x) y ≡ false) (map key (filter t xs))
            (λ y m. let r = In-from_map key (filter t xs) y m in
            In_from_each (λ z. e (key x) z ≡ false) (map key xs) d.0 y (subst (λ z. In z (map key xs)) r.2 (In-map key xs r.0 (In-from_filter t xs r.0 r.1).0))),
        rest,
      )
      by false rest = rest

  -- one more, apart from all
  pub distinct_push : (xs : List X) (x : X) → IsDistinct e (map key xs) → ((y : X) → In y xs → e (key y) (key x) ≡ false) → IsDistinct e (map key (xs ++ x ∷ []))
  unfolding IsDistinct
  distinct_push [] x d h = (tt, tt)
  distinct_push (y ∷ ys) x d h = (
    each_from_In (λ z. e (key y) z ≡ false) (map key (ys ++ x ∷ [])) (λ z m. let r = In-from_map key (ys ++ x ∷ []) z m in by z r.0 r.2 (In-append_cases r.0 ys (x ∷ []) r.1)),
    distinct_push ys x d.1 (λ z m. h z (inr m)),
  )
    where
      by : (z : K) (v : X) → key v ≡ z → In v ys ⊎ In v (x ∷ []) → e (key y) z ≡ false
      by z v k (inl m) = subst (λ a. e (key y) a ≡ false) k (In_from_each (λ a. e (key y) a ≡ false) (map key ys) d.0 (key v) (In-map key ys v m))
      by z v k (inr (inl s)) = subst (λ a. e (key y) a ≡ false) (ap key s ∙ k) (h y (inl refl))
      by z v k (inr (inr n)) = absurd n

pub map-push : {X K : Type 0} (key : X → K) (xs : List X) (x : X) → map key (xs ++ x ∷ []) ≡ map key xs ++ key x ∷ []
map-push key [] x = refl
map-push key (y ∷ ys) x = ap (λ l. key y ∷ l) (map-push key ys x)

pub map-filter : {X K : Type 0} (key : X → K) (t : K → Bool) (xs : List X) → map key (filter (λ x. t (key x)) xs) ≡ filter t (map key xs)
map-filter key t [] = refl
map-filter key t (x ∷ xs) = by (t (key x)) (map-filter key t xs)
  where
    by : (b : Bool) → map key (filter (λ y. t (key y)) xs) ≡ filter t (map key xs)
        → map key (cond b (x ∷ filter (λ y. t (key y)) xs) (filter (λ y. t (key y)) xs)) ≡ cond b (key x ∷ filter t (map key xs)) (filter t (map key xs))
    by true rest = ap (λ l. key x ∷ l) rest
    by false rest = rest

-- ---- the changed list

module _ {X : Type 0} (key : X → List ℕ) where
  -- a look-up finds what has an id of the list
  pub is_found : (id : List ℕ) (xs : List X) → is_some (by_key key id xs) ≡ has (map key xs) id
  is_found id [] = refl
  is_found id (x ∷ xs) = by (bytes_eq id (key x)) (is_found id xs)
    where
      by : (b : Bool) → is_some (by_key key id xs) ≡ has (map key xs) id → is_some (cond b (Some x) (by_key key id xs)) ≡ (b || has (map key xs) id)
      by true rest = refl
      by false rest = rest

  -- the list with x in the place of what has its key
  unfoldable pub put : X → List X → List X
  put x xs = map (λ y. if bytes_eq (key x) (key y) then x else y) xs

  pub put_keys : (x : X) (xs : List X) → map key (put x xs) ≡ map key xs
  unfolding put
  put_keys x [] = refl
  put_keys x (y ∷ ys) = by (bytes_eq (key x) (key y)) refl (put_keys x ys)
    where
      by : (b : Bool) → bytes_eq (key x) (key y) ≡ b → map key (put x ys) ≡ map key ys → key (if b then x else y) ∷ map key (put x ys) ≡ key y ∷ map key ys
      by true t rest = ap₂ (λ (a : List ℕ) (l : List (List ℕ)). a ∷ l) (same_bytes (key x) (key y) t) rest
      by false t rest = ap (λ l. key y ∷ l) rest

  pub In-from_put : (x : X) (xs : List X) (y : X) → In y (put x xs) → (x ≡ y) ⊎ In y xs
  unfolding put
  In-from_put x [] y m = absurd m
  In-from_put x (u ∷ us) y m = by (bytes_eq (key x) (key u)) (In-from_put x us y) m
    where
      wider : (x ≡ y) ⊎ In y us → (x ≡ y) ⊎ In y (u ∷ us)
      wider (inl e) = inl e
      wider (inr n) = inr (inr n)

      by : (b : Bool) → (In y (put x us) → (x ≡ y) ⊎ In y us) → ((if b then x else u) ≡ y) ⊎ In y (put x us) → (x ≡ y) ⊎ In y (u ∷ us)
      by true rest (inl e) = inl e
      by false rest (inl e) = inr (inl e)
      by b rest (inr n) = wider (rest n)

  pub distinct_more : (x : X) (xs : List X) → is_some (by_key key (key x) xs) ≡ false → IsDistinct bytes_eq (map key xs) → IsDistinct bytes_eq (map key (xs ++ x ∷ []))
  distinct_more x xs absent d =
      distinct_push bytes_eq key xs x d
      (λ y m. false_from_ne_true (bytes_eq (key y) (key x))
      (λ t. both_ways (has (map key xs) (key x)) (sym (is_found (key x) xs) ∙ absent)
      (has_from_In (map key xs) (key x) (subst (λ k. In k (map key xs)) (same_bytes (key y) (key x) t) (In-map key xs y m)))))

  pub distinct_put : (x : X) (xs : List X) → IsDistinct bytes_eq (map key xs) → IsDistinct bytes_eq (map key (put x xs))
  distinct_put x xs d = subst (λ l. IsDistinct bytes_eq l) (sym (put_keys x xs)) d

  -- ---- what is found stays found

  pub found_more : (x : X) (xs : List X) (id : List ℕ) → is_some (by_key key id xs) ≡ true → is_some (by_key key id (xs ++ x ∷ [])) ≡ true
  found_more x xs id h =
      is_found id (xs ++ x ∷ []) ∙ ap (λ l. has l id) (map-push key xs x)
      ∙ has_from_In (map key xs ++ key x ∷ []) id (In-append_left id (map key xs) (key x ∷ []) (In_from_has (map key xs) id (sym (is_found id xs) ∙ h)))

  pub found_put : (x : X) (xs : List X) (id : List ℕ) → is_some (by_key key id xs) ≡ true → is_some (by_key key id (put x xs)) ≡ true
  found_put x xs id h = is_found id (put x xs) ∙ ap (λ l. has l id) (put_keys x xs) ∙ sym (is_found id xs) ∙ h

  pub found_drop : (gone : List ℕ) (xs : List X) (id : List ℕ) → bytes_eq gone id ≡ false → is_some (by_key key id xs) ≡ true
      → is_some (by_key key id (filter (λ x. not (bytes_eq gone (key x))) xs)) ≡ true
  found_drop gone xs id other h =
      is_found id (filter (λ x. not (bytes_eq gone (key x))) xs)
      ∙ ap (λ l. has l id) (map-filter key (λ k. not (bytes_eq gone k)) xs)
      ∙ has_from_In (filter (λ k. not (bytes_eq gone k)) (map key xs)) id
      (In-filter (λ k. not (bytes_eq gone k)) (map key xs) id (In_from_has (map key xs) id (sym (is_found id xs) ∙ h)) (not_from_false (bytes_eq gone id) other))

-- ---- what holds of each element

module _ {X : Type 0} (P : X → Type 0) where
  pub each_more : (xs : List X) (x : X) → ((y : X) → In y xs → P y) → P x → (y : X) → In y (xs ++ x ∷ []) → P y
  each_more xs x h p y m = by (In-append_cases y xs (x ∷ []) m)
    where
      by : In y xs ⊎ In y (x ∷ []) → P y
      by (inl n) = h y n
      by (inr (inl e)) = subst P e p
      by (inr (inr n)) = absurd n

  pub each_put : (key : X → List ℕ) (xs : List X) (x : X) → ((y : X) → In y xs → P y) → P x → (y : X) → In y (put key x xs) → P y
  each_put key xs x h p y m = by (In-from_put key x xs y m)
    where
      by : (x ≡ y) ⊎ In y xs → P y
      by (inl e) = subst P e p
      by (inr n) = h y n

  pub each_drop : (t : X → Bool) (xs : List X) → ((y : X) → In y xs → P y) → (y : X) → In y (filter t xs) → P y
  each_drop t xs h y m = h y (In-from_filter t xs y m).0

-- ---- the keys of the four kinds

abbrev pub program_id : Program → List ℕ
program_id p = p.id

abbrev pub ven_id : Ven → List ℕ
ven_id v = v.id

abbrev pub resource_id : Resource → List ℕ
resource_id r = r.id

abbrev pub event_id : Written → List ℕ
event_id w = w.event.id
