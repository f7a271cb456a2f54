-- No two entries of one list have one rank.
use Rattle.std.proofs.Common.{◌≡◌, ℕ, ◌+◌, ◌≤◌, ◌==◌, Bool, true, false, eqb, List, [], ◌∷◌, ◌++◌, Option, Some, None, refl, ap, sym, subst, filter, flat_map, filter_map, arith, ◌⊎◌, inl, inr, eqb-true}
use Rattle.std.specs.List.{IsDistinct, enumerate_from, zip, cons_option}
use Rattle.std.specs.Bool.{then_some}
use Rattle.std.specs.Option.{option_map_or}
use Rattle.std.specs.Result.{result_unwrap_or}
use Rattle.std.proofs.lemmas.Bool.{and_left, and_right, false_from_ne_true}
use Rattle.adr_value.specs.declared.payload.PayloadType.{PayloadType}
use Rattle.adr_time.specs.declared.span.Span.{Span}
use Rattle.adr_object.specs.declared.event.Interval.{Interval}
use Rattle.adr_object.specs.declared.party.Resource.{Resource}
use Rattle.adr_model.specs.declared.entry.Entry.{Entry}
use Rattle.adr_model.specs.declared.entry.Rank.{Rank}
use Rattle.adr_model.specs.declared.written.Written.{Written}
use Rattle.adr_model.specs.Layout.{layout}
use Rattle.adr_model.specs.Rank.{carries, ranked}
use Rattle.adr_model.specs.declared.entry.Tie.{Tie}
use Rattle.adr_model.specs.Book.{Book, resource_by}
use Rattle.adr_model.specs.Governor.{entry_at, entries_of, entries_for, applies_to}
use Rattle.adr_model.specs.Lists.{In}
use Rattle.adr_repair.specs.Ranks.{same_mark}
use Rattle.adr_model.specs.Whole.{IsSound}
use Rattle.adr_model.proofs.Lists.{In-append_cases, In-from_flat_map, In-map, each_from_In, In_from_each}
use Rattle.adr_model.proofs.Keyed.{distinct_filter}
use Rattle.adr_model.proofs.Events.{numbers, one_write}
use Rattle.adr_repair.proofs.Inside.{number_of_entry}

-- two distinct lists with nothing in common
distinct_append : {X : Type 0} (e : X → X → Bool) (xs ys : List X) → IsDistinct e xs → IsDistinct e ys
    → ((x y : X) → In x xs → In y ys → e x y ≡ false) → IsDistinct e (xs ++ ys)
unfolding IsDistinct
distinct_append e [] ys d f h = f
distinct_append {X = X} e (x ∷ xs) ys d f h =
    (each_from_In (λ y. e x y ≡ false) (xs ++ ys) (λ y m. by y (In-append_cases y xs ys m)), distinct_append e xs ys d.1 f (λ a b m n. h a b (inr m) n))
  where
    by : (y : X) → In y xs ⊎ In y ys → e x y ≡ false
    by y (inl m) = In_from_each (λ z. e x z ≡ false) xs d.0 y m
    by y (inr n) = h x y (inl refl) n

module _ (kind : PayloadType) where
  abbrev pub entries_from : Written → ℕ → List (Interval × Span) → List Entry
  entries_from w n ps = filter_map (λ p. then_some (carries p.1.0 kind) (entry_at w p.0 p.1.1)) (enumerate_from n ps)

  -- places do not fall below where the count begins
  place_from : (w : Written) (n : ℕ) (ps : List (Interval × Span)) (x : Entry) → In x (entries_from w n ps) → n ≤ x.rank.place
  place_from w n [] x m = absurd m
  place_from w n (p ∷ ps) x m = by (carries p.0 kind) (place_from w (n + 1) ps x) m
    where
      by : (c : Bool) → (In x (entries_from w (n + 1) ps) → n + 1 ≤ x.rank.place) → In x (cons_option (then_some c (entry_at w n p.1)) (entries_from w (n + 1) ps)) → n ≤ x.rank.place
      by true rest (inl e) = let h : n ≡ x.rank.place = ap (λ (y : Entry). y.rank.place) e in omega arith
      by true rest (inr k) = let h : n + 1 ≤ x.rank.place = rest k in omega arith
      by false rest k = let h : n + 1 ≤ x.rank.place = rest k in omega arith

  places_apart : (w : Written) (n : ℕ) (ps : List (Interval × Span)) → IsDistinct same_mark (entries_from w n ps)
  unfolding IsDistinct
  places_apart w n [] = tt
  places_apart w n (p ∷ ps) = by (carries p.0 kind) (places_apart w (n + 1) ps)
    where
      by : (c : Bool) → IsDistinct same_mark (entries_from w (n + 1) ps) → IsDistinct same_mark (cons_option (then_some c (entry_at w n p.1)) (entries_from w (n + 1) ps))
      by true rest = (
        each_from_In (λ y. same_mark (entry_at w n p.1) y ≡ false) (entries_from w (n + 1) ps)
            (λ y m. and_right (w.written == y.rank.written) (n == y.rank.place)
            (false_from_ne_true (n == y.rank.place)
            (λ t. let e : n ≡ y.rank.place = eqb-true n y.rank.place t in let h : n + 1 ≤ y.rank.place = place_from w (n + 1) ps y m in omega arith))),
        rest,
      )
      by false rest = rest

  pub events_apart : (ws : List Written) → IsDistinct eqb (numbers ws) → IsDistinct same_mark (flat_map (entries_of kind) ws)
  unfolding IsDistinct
  events_apart [] d = tt
  events_apart (w ∷ ws) d =
      distinct_append same_mark (entries_of kind w) (flat_map (entries_of kind) ws)
      (places_apart w 0 (zip w.event.intervals (result_unwrap_or (layout w.event) [])))
      (events_apart ws d.1)
      (λ x y m n.
      let v = In-from_flat_map (entries_of kind) ws y n in
      and_left (x.rank.written == y.rank.written) (x.rank.place == y.rank.place)
      (subst (λ a. eqb a y.rank.written ≡ false) (sym (number_of_entry kind w x m))
      (subst (λ a. eqb w.written a ≡ false) (sym (number_of_entry kind v.0 y v.2))
      (In_from_each (λ a. eqb w.written a ≡ false) (numbers ws) d.0 v.0.written (In-map (λ (z : Written). z.written) ws v.0 v.1)))))

  pub entries_apart : (book : Book) (id : List ℕ) → IsSound book → IsDistinct same_mark (entries_for book id kind)
  unfolding IsDistinct
  entries_apart book id s = by (resource_by book id)
    where
      by : (o : Option Resource) → IsDistinct same_mark (option_map_or (λ r. flat_map (entries_of kind) (filter (applies_to book r) book.events)) o [])
      by None = tt
      by (Some r) = events_apart (filter (applies_to book r) book.events) (distinct_filter eqb (λ (w : Written). w.written) (applies_to book r) book.events s.writes)

-- two intervals of one rank are one
pub one_interval : (tie : Tie) (book : Book) → IsSound book → (w v : Written) → In w book.events → In v book.events → (i j : ℕ) (a b : Span)
    → (ranked tie (entry_at w i a)).rank ≡ (ranked tie (entry_at v j b)).rank → (w ≡ v) × (i ≡ j)
one_interval tie book s w v m n i j a b e = (one_write book.events s.writes w v m n (ap (λ (r : Rank). r.written) e), ap (λ (r : Rank). r.place) e)
