-- Lists: what a flat_map, a filter and a look-up keep.
use Rattle.std.proofs.Common.{◌≡◌, ℕ, ◌⊎◌, inl, inr, Bool, true, false, ◌||◌, cond, List, [], ◌∷◌, ◌++◌, map, refl, ap, ap₂, sym, subst, ◌∙◌, filter, flat_map, Contains, ◌<◌, arith}
use Rattle.std.specs.List.{list_any, AllByRecursion}
use Rattle.std.specs.Str.{bytes_eq}
use Rattle.std.specs.Option.{option_map_or}
use Rattle.std.specs.Bool.{then_some}
use Rattle.std.proofs.lemmas.Slice.Eq.{bytes_eq-Decides}
use Rattle.std.proofs.lemmas.List.Elements.{filter-append, Contains-append_left, Contains-append_right, Contains-append_cases, Contains-push, Contains-push_cases}
use Rattle.std.proofs.lemmas.List.Folds.{list_any-append}
use Rattle.std.proofs.lemmas.Bool.{or_parts, or_cases, false≢true}
use Rattle.adr_model.specs.Lists.{In}

module _ {X Y : Type 0} where
  pub flat_map-same : (f g : X → List Y) (xs : List X) → ((x : X) → In x xs → f x ≡ g x) → flat_map f xs ≡ flat_map g xs
  flat_map-same f g [] h = refl
  flat_map-same f g (x ∷ xs) h = ap₂ (λ (a b : List Y). a ++ b) (h x (inl refl)) (flat_map-same f g xs (λ y m. h y (inr m)))

  -- what the filter drops gives nothing
  pub flat_map-filter : (f : X → List Y) (test : X → Bool) (xs : List X) → ((x : X) → test x ≡ false → f x ≡ []) → flat_map f (filter test xs) ≡ flat_map f xs
  flat_map-filter f test [] h = refl
  flat_map-filter f test (x ∷ xs) h = by (test x) refl (flat_map-filter f test xs h)
    where
      by : (b : Bool) → test x ≡ b → flat_map f (filter test xs) ≡ flat_map f xs
          → flat_map f (cond b (x ∷ filter test xs) (filter test xs)) ≡ f x ++ flat_map f xs
      by true t rest = ap (λ (a : List Y). f x ++ a) rest
      by false t rest = rw (h x t) rest

  -- what the filter keeps gives nothing
  pub flat_map-filter_none : (f : X → List Y) (test : X → Bool) (xs : List X) → ((x : X) → test x ≡ true → f x ≡ []) → flat_map f (filter test xs) ≡ []
  flat_map-filter_none f test [] h = refl
  flat_map-filter_none f test (x ∷ xs) h = by (test x) refl (flat_map-filter_none f test xs h)
    where
      by : (b : Bool) → test x ≡ b → flat_map f (filter test xs) ≡ []
          → flat_map f (cond b (x ∷ filter test xs) (filter test xs)) ≡ []
      by true t rest = rw (h x t) rest
      by false t rest = rest

  -- a filter of what the kept elements give, element by element
  pub filter-flat_map : (c : Y → Bool) (E : X → List Y) (a : X → Bool) (xs : List X)
      → filter c (flat_map E (filter a xs)) ≡ flat_map (λ x. option_map_or (λ w. filter c (E w)) (then_some (a x) x) []) xs
  filter-flat_map c E a [] = refl
  filter-flat_map c E a (x ∷ xs) = by (a x) (filter-flat_map c E a xs)
    where
      by : (b : Bool) → filter c (flat_map E (filter a xs)) ≡ flat_map (λ x. option_map_or (λ w. filter c (E w)) (then_some (a x) x) []) xs
          → filter c (flat_map E (cond b (x ∷ filter a xs) (filter a xs)))
          ≡ option_map_or (λ w. filter c (E w)) (then_some b x) [] ++ flat_map (λ x. option_map_or (λ w. filter c (E w)) (then_some (a x) x) []) xs
      by true rest = filter-append c (E x) (flat_map E (filter a xs)) ∙ ap (λ (l : List Y). filter c (E x) ++ l) rest
      by false rest = rest

  -- no element passes, so none of a part
  pub none_in_part : (p : Y → Bool) (f : X → List Y) (xs : List X) (x : X) → In x xs → list_any p (flat_map f xs) ≡ false → list_any p (f x) ≡ false
  none_in_part p f [] x m h = absurd m
  none_in_part p f (y ∷ ys) x (inl e) h =
      let both : (list_any p (f y) || list_any p (flat_map f ys)) ≡ false = sym (list_any-append p (f y) (flat_map f ys)) ∙ h in
      subst (λ (z : X). list_any p (f z) ≡ false) e (or_parts (list_any p (f y)) (list_any p (flat_map f ys)) both).0
  none_in_part p f (y ∷ ys) x (inr n) h =
      let both : (list_any p (f y) || list_any p (flat_map f ys)) ≡ false = sym (list_any-append p (f y) (flat_map f ys)) ∙ h in
      none_in_part p f ys x n (or_parts (list_any p (f y)) (list_any p (flat_map f ys)) both).1

  -- some element passes, in some part
  pub part_with_one : (p : Y → Bool) (f : X → List Y) (xs : List X) → list_any p (flat_map f xs) ≡ true → (x : X) × In x xs × (list_any p (f x) ≡ true)
  part_with_one p f [] h = absurd (false≢true h)
  part_with_one p f (y ∷ ys) h =
      by (or_cases (list_any p (f y)) (list_any p (flat_map f ys)) (sym (list_any-append p (f y) (flat_map f ys)) ∙ h)) (part_with_one p f ys)
    where
      by : (list_any p (f y) ≡ true) ⊎ (list_any p (flat_map f ys) ≡ true)
          → (list_any p (flat_map f ys) ≡ true → (x : X) × In x ys × (list_any p (f x) ≡ true))
          → (x : X) × In x (y ∷ ys) × (list_any p (f x) ≡ true)
      by (inl a) later = (y, inl refl, a)
      by (inr b) later = let r = later b in (r.0, inr r.1, r.2)

module _ {X : Type 0} where
  pub In-append_left : (x : X) (xs ys : List X) → In x xs → In x (xs ++ ys)
  In-append_left x [] ys m = absurd m
  In-append_left x (z ∷ xs) ys (inl e) = inl e
  In-append_left x (z ∷ xs) ys (inr m) = inr (In-append_left x xs ys m)

  pub In-append_right : (x : X) (xs ys : List X) → In x ys → In x (xs ++ ys)
  In-append_right x [] ys m = m
  In-append_right x (z ∷ xs) ys m = inr (In-append_right x xs ys m)

  pub In-append_cases : (x : X) (xs ys : List X) → In x (xs ++ ys) → In x xs ⊎ In x ys
  In-append_cases x [] ys m = inr m
  In-append_cases x (z ∷ xs) ys (inl e) = inl (inl e)
  In-append_cases x (z ∷ xs) ys (inr m) = by (In-append_cases x xs ys m)
    where
      by : In x xs ⊎ In x ys → In x (z ∷ xs) ⊎ In x ys
      by (inl a) = inl (inr a)
      by (inr b) = inr b

  pub filter_none : (test : X → Bool) (xs : List X) → list_any test xs ≡ false → filter test xs ≡ []
  filter_none test [] h = refl
  filter_none test (x ∷ xs) h = let p = or_parts (test x) (list_any test xs) h in rw p.0 (filter_none test xs p.1)

  pub In-filter : (test : X → Bool) (xs : List X) (x : X) → In x xs → test x ≡ true → In x (filter test xs)
  In-filter test [] x m t = absurd m
  In-filter test (y ∷ ys) x (inl e) t = let u : test y ≡ true = ap test e ∙ t in rw u (inl e)
  In-filter test (y ∷ ys) x (inr m) t = by (test y) (In-filter test ys x m t)
    where
      by : (b : Bool) → In x (filter test ys) → In x (cond b (y ∷ filter test ys) (filter test ys))
      by true n = inr n
      by false n = n

  pub In-from_filter : (test : X → Bool) (xs : List X) (x : X) → In x (filter test xs) → In x xs × (test x ≡ true)
  In-from_filter test [] x m = absurd m
  In-from_filter test (y ∷ ys) x m = by (test y) refl (In-from_filter test ys x) m
    where
      by : (b : Bool) → test y ≡ b → (In x (filter test ys) → In x ys × (test x ≡ true)) → In x (cond b (y ∷ filter test ys) (filter test ys)) → In x (y ∷ ys) × (test x ≡ true)
      by true t later (inl e) = (inl e, ap test (sym e) ∙ t)
      by true t later (inr n) = let r = later n in (inr r.0, r.1)
      by false t later n = let r = later n in (inr r.0, r.1)

  -- the one that passes
  pub passing_in : (p : X → Bool) (xs : List X) → list_any p xs ≡ true → (x : X) × In x xs × (p x ≡ true)
  passing_in p [] h = absurd (false≢true h)
  passing_in p (y ∷ ys) h = by (or_cases (p y) (list_any p ys) h) (passing_in p ys)
    where
      by : (p y ≡ true) ⊎ (list_any p ys ≡ true) → (list_any p ys ≡ true → (x : X) × In x ys × (p x ≡ true)) → (x : X) × In x (y ∷ ys) × (p x ≡ true)
      by (inl a) later = (y, inl refl, a)
      by (inr b) later = let r = later b in (r.0, inr r.1, r.2)

  -- to drop what the test S fails anyway changes nothing of it
  pub list_any-filter : (S test : X → Bool) (xs : List X) → ((x : X) → test x ≡ false → S x ≡ false) → list_any S (filter test xs) ≡ list_any S xs
  list_any-filter S test [] h = refl
  list_any-filter S test (x ∷ xs) h = by (test x) refl (list_any-filter S test xs h)
    where
      by : (b : Bool) → test x ≡ b → list_any S (filter test xs) ≡ list_any S xs
          → list_any S (cond b (x ∷ filter test xs) (filter test xs)) ≡ (S x || list_any S xs)
      by true t rest = ap (λ (r : Bool). S x || r) rest
      by false t rest = rw (h x t) rest

  pub filter-same : (f g : X → Bool) (xs : List X) → ((x : X) → In x xs → f x ≡ g x) → filter f xs ≡ filter g xs
  filter-same f g [] h = refl
  filter-same f g (x ∷ xs) h = rw (h x (inl refl), filter-same f g xs (λ y m. h y (inr m)))

  pub filter_all : (test : X → Bool) (xs : List X) → ((x : X) → In x xs → test x ≡ true) → filter test xs ≡ xs
  filter_all test [] h = refl
  filter_all test (x ∷ xs) h = rw (h x (inl refl)) (ap (λ l. x ∷ l) (filter_all test xs (λ y m. h y (inr m))))

  pub filter_drops_all : (test : X → Bool) (xs : List X) → ((x : X) → In x xs → test x ≡ false) → filter test xs ≡ []
  filter_drops_all test [] h = refl
  filter_drops_all test (x ∷ xs) h = rw (h x (inl refl)) (filter_drops_all test xs (λ y m. h y (inr m)))

module _ {X : Type 0} where
  pub In-flat_map : {Y : Type 0} (f : X → List Y) (xs : List X) (x : X) (y : Y) → In x xs → In y (f x) → In y (flat_map f xs)
  In-flat_map f [] x y m n = absurd m
  In-flat_map {Y = Y} f (z ∷ zs) x y (inl e) n = In-append_left y (f z) (flat_map f zs) (subst (λ (v : X). In y (f v)) (sym e) n)
  In-flat_map f (z ∷ zs) x y (inr m) n = In-append_right y (f z) (flat_map f zs) (In-flat_map f zs x y m n)

  pub In-from_flat_map : {Y : Type 0} (f : X → List Y) (xs : List X) (y : Y) → In y (flat_map f xs) → (x : X) × In x xs × In y (f x)
  In-from_flat_map f [] y m = absurd m
  In-from_flat_map f (z ∷ zs) y m = by (In-append_cases y (f z) (flat_map f zs) m) (In-from_flat_map f zs y)
    where
      by : In y (f z) ⊎ In y (flat_map f zs) → (In y (flat_map f zs) → (x : X) × In x zs × In y (f x)) → (x : X) × In x (z ∷ zs) × In y (f x)
      by (inl a) later = (z, inl refl, a)
      by (inr b) later = let r = later b in (r.0, inr r.1, r.2)

module _ {X Y : Type 0} (f : X → Y) where
  pub In-map : (xs : List X) (x : X) → In x xs → In (f x) (map f xs)
  In-map [] x m = absurd m
  In-map (y ∷ ys) x (inl e) = inl (ap f e)
  In-map (y ∷ ys) x (inr m) = inr (In-map ys x m)

  pub In-from_map : (xs : List X) (y : Y) → In y (map f xs) → (x : X) × In x xs × (f x ≡ y)
  In-from_map [] y m = absurd m
  In-from_map (x ∷ xs) y (inl e) = (x, inl refl, e)
  In-from_map (x ∷ xs) y (inr m) = let r = In-from_map xs y m in (r.0, inr r.1, r.2)

-- ---- membership by place

pub Contains-from_In : {X : Type 0} (xs : List X) (x : X) → In x xs → Contains xs x
Contains-from_In [] x m = absurd m
Contains-from_In (y ∷ ys) x (inl e) = subst (λ z. Contains (y ∷ ys) z) e (Contains-append_left (y ∷ []) ys y (Contains-push [] y))
Contains-from_In (y ∷ ys) x (inr m) = Contains-append_right (y ∷ []) ys x (Contains-from_In ys x m)

none_contained : {X : Type 0} (x : X) → Contains [] x → ⊥
none_contained x c = let less : c.0 < 0 = c.1 in omega arith

pub In-from_Contains : {X : Type 0} (xs : List X) (x : X) → Contains xs x → In x xs
In-from_Contains [] x c = none_contained x c
In-from_Contains {X = X} (y ∷ ys) x c = by (Contains-append_cases (y ∷ []) ys x c) (In-from_Contains ys x)
  where
    first : Contains [] x ⊎ (y ≡ x) → y ≡ x
    first (inl n) = absurd (none_contained x n)
    first (inr e) = e

    by : Contains (y ∷ []) x ⊎ Contains ys x → (Contains ys x → In x ys) → In x (y ∷ ys)
    by (inl a) later = inl (first (Contains-push_cases [] y x a))
    by (inr b) later = inr (later b)

-- ---- ids

pub same_bytes : (a b : List ℕ) → bytes_eq a b ≡ true → a ≡ b
same_bytes a b = (bytes_eq-Decides a b).0

pub bytes_eq_self : (a : List ℕ) → bytes_eq a a ≡ true
bytes_eq_self a = (bytes_eq-Decides a a).1 refl

-- the id is in the list
abbrev pub has : List (List ℕ) → List ℕ → Bool
has ids id = list_any (bytes_eq id) ids

pub has_from_In : (ids : List (List ℕ)) (id : List ℕ) → In id ids → has ids id ≡ true
has_from_In [] id m = absurd m
has_from_In (x ∷ xs) id (inl e) = let h : bytes_eq id x ≡ true = (bytes_eq-Decides id x).1 (sym e) in rw h
has_from_In (x ∷ xs) id (inr m) = by (bytes_eq id x) (has_from_In xs id m)
  where
    by : (b : Bool) → list_any (bytes_eq id) xs ≡ true → (b || list_any (bytes_eq id) xs) ≡ true
    by true h = refl
    by false h = h

pub In_from_has : (ids : List (List ℕ)) (id : List ℕ) → has ids id ≡ true → In id ids
In_from_has ids id h = let (x, m, e) = passing_in (bytes_eq id) ids h in subst (λ (z : List ℕ). In z ids) (sym (same_bytes id x e)) m

-- ---- what holds of each element

module _ {X : Type 0} (P : X → Type 0) where
  pub each_from_In : (xs : List X) → ((x : X) → In x xs → P x) → AllByRecursion P xs
  each_from_In [] h = tt
  each_from_In (x ∷ xs) h = (h x (inl refl), each_from_In xs (λ y m. h y (inr m)))

  pub In_from_each : (xs : List X) → AllByRecursion P xs → (x : X) → In x xs → P x
  In_from_each [] a x m = absurd m
  In_from_each (y ∷ ys) a x (inl e) = subst P e a.0
  In_from_each (y ∷ ys) a x (inr m) = In_from_each ys a.1 x m

pub none_passes : {X : Type 0} (p : X → Bool) (xs : List X) → list_any p xs ≡ false → (x : X) → In x xs → p x ≡ false
none_passes p [] h x m = absurd m
none_passes p (y ∷ ys) h x (inl e) = ap p (sym e) ∙ (or_parts (p y) (list_any p ys) h).0
none_passes p (y ∷ ys) h x (inr m) = none_passes p ys (or_parts (p y) (list_any p ys) h).1 x m
