-- What lists of entries hold after entries are inserted and taken out.
use Rattle.std.proofs.Common.{◌≡◌, ◌==◌, ◌⊎◌, inl, inr, Bool, true, false, not, ◌||◌, List, [], ◌∷◌, map, refl, ap, sym, subst, filter, eqb-true}
use Rattle.std.specs.List.{list_any, IsDistinct, AllByRecursion}
use Rattle.std.proofs.lemmas.Bool.{both_ways, and_left, false_from_ne_true}
use Rattle.adr_model.specs.declared.entry.Entry.{Entry}
use Rattle.adr_model.specs.declared.entry.Tie.{Tie}
use Rattle.adr_model.specs.Entries.{is_listed_before}
use Rattle.adr_model.specs.Lists.{In}
use Rattle.adr_model.specs.Rank.{ranked}
use Rattle.adr_model.proofs.Lists.{In-append_left, In-append_right, In-append_cases, In-filter, In-from_filter, In_from_each}
use Rattle.adr_repair.specs.Ranks.{same_mark}
use Rattle.adr_index.specs.Index.{inserted, inserted_all, is_entry, others, others_all, AreNew}
use Rattle.adr_index.proofs.Ordered.{listed_asym, listed_total}
use Rattle.adr_lines.specs.Exchange.{IsIndexOf}
use Rattle.adr_lines.specs.Indexes.{under}
use Rattle.adr_lines.specs.declared.indexes.Indexes.{Indexes}
use Rattle.adr_value.specs.declared.payload.PayloadType.{PayloadType}

-- ---- inserted

module _ (x : Entry) (es : List Entry) where
  abbrev earlier : Entry → Bool
  earlier y = is_listed_before y x

  abbrev later : Entry → Bool
  later y = not (is_listed_before y x)

  In-inserted : (e : Entry) → (x ≡ e) ⊎ In e es → In e (inserted x es)
  In-inserted e (inl same) = In-append_right e (filter earlier es) (x ∷ filter later es) (inl same)
  In-inserted e (inr m) = by (is_listed_before e x) refl
    where
      by : (b : Bool) → is_listed_before e x ≡ b → In e (inserted x es)
      by true t = In-append_left e (filter earlier es) (x ∷ filter later es) (In-filter earlier es e m t)
      by false t = In-append_right e (filter earlier es) (x ∷ filter later es) (inr (In-filter later es e m (ap not t)))

  In-from_inserted : (e : Entry) → In e (inserted x es) → (x ≡ e) ⊎ In e es
  In-from_inserted e m = by (In-append_cases e (filter earlier es) (x ∷ filter later es) m)
    where
      by : In e (filter earlier es) ⊎ In e (x ∷ filter later es) → (x ≡ e) ⊎ In e es
      by (inl a) = inr (In-from_filter earlier es e a).0
      by (inr (inl same)) = inl same
      by (inr (inr b)) = inr (In-from_filter later es e b).0

pub In-inserted_all : (xs es : List Entry) (e : Entry) → In e es ⊎ In e xs → In e (inserted_all xs es)
In-inserted_all [] es e (inl m) = m
In-inserted_all [] es e (inr m) = absurd m
In-inserted_all (x ∷ xs) es e (inl m) = In-inserted_all xs (inserted x es) e (inl (In-inserted x es e (inr m)))
In-inserted_all (x ∷ xs) es e (inr (inl same)) = In-inserted_all xs (inserted x es) e (inl (In-inserted x es e (inl same)))
In-inserted_all (x ∷ xs) es e (inr (inr m)) = In-inserted_all xs (inserted x es) e (inr m)

pub In-from_inserted_all : (xs es : List Entry) (e : Entry) → In e (inserted_all xs es) → In e es ⊎ In e xs
In-from_inserted_all [] es e m = inl m
In-from_inserted_all (x ∷ xs) es e m = by (In-from_inserted_all xs (inserted x es) e m)
  where
    old : (x ≡ e) ⊎ In e es → In e es ⊎ In e (x ∷ xs)
    old (inl same) = inr (inl same)
    old (inr m) = inl m

    by : In e (inserted x es) ⊎ In e xs → In e es ⊎ In e (x ∷ xs)
    by (inl a) = old (In-from_inserted x es e a)
    by (inr b) = inr (inr b)

-- ---- taken out

-- the entry stands in another place than one that is taken out
abbrev pub is_elsewhere : Entry → Entry → Bool
is_elsewhere x e = is_listed_before e x || is_listed_before x e

pub In-others_all : (xs es : List Entry) (e : Entry) → In e es → ((x : Entry) → In x xs → is_elsewhere x e ≡ true) → In e (others_all xs es)
In-others_all [] es e m h = m
In-others_all (x ∷ xs) es e m h = In-others_all xs (others x es) e (In-filter (is_elsewhere x) es e m (h x (inl refl))) (λ y n. h y (inr n))

pub In-from_others_all : (xs es : List Entry) (e : Entry) → In e (others_all xs es) → In e es × ((x : Entry) → In x xs → is_elsewhere x e ≡ true)
In-from_others_all [] es e m = (m, λ x n. absurd n)
In-from_others_all (x ∷ xs) es e m =
    let r = In-from_others_all xs (others x es) e m in
    let f = In-from_filter (is_elsewhere x) es e r.0 in
    (f.0, λ y n. by y f.1 r.1 n)
  where
    by : (y : Entry) → is_elsewhere x e ≡ true → ((z : Entry) → In z xs → is_elsewhere z e ≡ true) → In y (x ∷ xs) → is_elsewhere y e ≡ true
    by y t rest (inl same) = subst (λ (z : Entry). is_elsewhere z e ≡ true) same t
    by y t rest (inr n) = rest y n

-- nothing is elsewhere than itself
pub not_elsewhere : (e : Entry) → is_elsewhere e e ≡ true → ⊥
not_elsewhere e h = by (is_listed_before e e) refl h
  where
    by : (b : Bool) → is_listed_before e e ≡ b → (b || b) ≡ true → ⊥
    by true t g = both_ways (is_listed_before e e) (listed_asym e e t) t
    by false t g = absurd (cc)

other_number : (a b : Entry) → (a.rank.written ≡ b.rank.written → ⊥) → is_entry a.rank.written a.rank.place b ≡ false
other_number a b apart =
    and_left (b.rank.written == a.rank.written) (b.rank.place == a.rank.place)
    (false_from_ne_true (b.rank.written == a.rank.written) (λ t. apart (sym (eqb-true b.rank.written a.rank.written t))))

-- entries of other numbers are elsewhere
pub elsewhere : (x e : Entry) → (x.rank.written ≡ e.rank.written → ⊥) → is_elsewhere x e ≡ true
elsewhere x e apart = by (is_listed_before e x) refl
  where
    by : (b : Bool) → is_listed_before e x ≡ b → (b || is_listed_before x e) ≡ true
    by true t = refl
    by false t = listed_total e x t (other_number x e apart)

-- ---- none of them is there yet

none_such : (p : Entry → Bool) (es : List Entry) → ((y : Entry) → In y es → p y ≡ false) → list_any p es ≡ false
none_such p [] h = refl
none_such p (y ∷ ys) h = rw (h y (inl refl)) (none_such p ys (λ z m. h z (inr m)))

none_alike : (xs es : List Entry) → IsDistinct same_mark xs
    → ((x y : Entry) → In x xs → In y es → is_entry x.rank.written x.rank.place y ≡ false) → AreNew xs es
unfolding IsDistinct
none_alike [] es d h = tt
none_alike (x ∷ xs) es d h = (
  none_such (is_entry x.rank.written x.rank.place) es (λ y m. h x y (inl refl) m),
  none_alike xs (inserted x es) d.1 (λ z y m n. by z y m (In-from_inserted x es y n)),
)
  where
    by : (z y : Entry) → In z xs → (x ≡ y) ⊎ In y es → is_entry z.rank.written z.rank.place y ≡ false
    by z y m (inl same) =
        subst (λ (v : Entry). is_entry z.rank.written z.rank.place v ≡ false) same
        (In_from_each (λ v. same_mark x v ≡ false) xs d.0 z m)
    by z y m (inr n) = h z y (inr m) n

-- entries apart from each other, of other numbers than those that are there
pub are_new : (xs es : List Entry) → IsDistinct same_mark xs
    → ((x y : Entry) → In x xs → In y es → x.rank.written ≡ y.rank.written → ⊥) → AreNew xs es
are_new xs es d h = none_alike xs es d (λ x y m n. other_number x y (h x y m n))

-- ranked entries are as distinct as they were
pub ranked_apart : (tie : Tie) (xs : List Entry) → IsDistinct same_mark xs → IsDistinct same_mark (map (ranked tie) xs)
unfolding IsDistinct
ranked_apart tie [] d = tt
ranked_apart tie (x ∷ xs) d = (each xs d.0, ranked_apart tie xs d.1)
  where
    each : (ys : List Entry) → AllByRecursion (λ y. same_mark x y ≡ false) ys → AllByRecursion (λ y. same_mark (ranked tie x) y ≡ false) (map (ranked tie) ys)
    each [] h = tt
    each (y ∷ ys) h = (h.0, each ys h.1)

-- no entries are those of no events
pub none_held : (tie : Tie) (indexes : Indexes) → ((k : PayloadType) → under indexes k ≡ []) → IsIndexOf tie [] indexes
unfolding IsIndexOf
none_held tie indexes none k e = (λ m. subst (λ (l : List Entry). In e l) (none k) m, λ m. absurd m)
