-- Where the lines of a list begin, and which types are listed.
use Rattle.std.proofs.Common.{◌≡◌, ◌⊎◌, inl, inr, ℤ, pos, ◌-ℤ◌, ◌≤ℤ◌, ◌<ℤ◌, Bool, true, false, not, ◌&&◌, ◌||◌, cond, List, [], ◌∷◌, refl, sym, ap, subst, ◌∙◌, filter, map, Option, is_some, arith, ℕ, zero, suc, ◌+ℤ◌}
use Rattle.std.specs.Prelude.{unsigned_abs}
use Rattle.std.specs.Prelude.{int_le, int_lt}
use Rattle.std.specs.List.{AllByRecursion, list_any}
use Rattle.std.specs.Option.{option_map}
use Rattle.std.specs.Ordering.{int_cmp, int_eq, is_eq, is_lt}
use Rattle.std.specs.declared.cmp.Ordering.TheVariants.{Less, Equal, Greater}
use Rattle.std.proofs.lemmas.Int.{ints}
use Rattle.std.proofs.lemmas.Bool.{and_parts, both_ways, false≢true, or_parts}
use Rattle.std.proofs.lemmas.Map.Views.{any-filter_same}
use Rattle.adr_time.specs.Spans.{covers, is_before}
use Rattle.adr_time.specs.declared.span.End.{End}
use Rattle.adr_time.specs.declared.span.End.TheVariants.{At, Endless}
use Rattle.adr_time.specs.declared.span.Span.{Span}
use Rattle.adr_model.specs.declared.entry.Entry.{Entry}
use Rattle.adr_value.specs.declared.payload.PayloadType.{PayloadType}
use Rattle.adr_model.specs.declared.entry.Tie.{Tie}
use Rattle.adr_model.specs.declared.timeline.Winner.{Winner}
use Rattle.adr_model.specs.Book.{Book}
use Rattle.adr_model.specs.Rank.{ranked}
use Rattle.adr_model.proofs.Ranked.{bounds_ranked, governs_winners, governs_wins}
use Rattle.adr_model.specs.Answer.{IsUntil, at, bounds, same_winner, shown, state_text, until}
use Rattle.adr_model.specs.Governor.{entries_for, first_of, ranked_entries, winner_at, winner_of}
use Rattle.adr_model.specs.Laws.{IsAscending, SegmentsAreApart, SegmentsAreInOrder, SegmentsBeginAtChanges, SegmentsCoverAll, SegmentsShowOne, RollTellsEach, RollTellsWhatAtTells, TypesGovernSometime}
use Rattle.adr_model.specs.Queries.{beginnings, begins, end_within, in_order, is_governed, put_in_order, roll}
use Rattle.adr_model.proofs.AnswerLaws.{next, next_is_until, same_before_next, same_from_winner, winner_from_same, winner_same}

-- ---- lists in order

same_int : (a b : ℤ) → int_eq a b ≡ true → a ≡ b
same_int a b h = grind (arith, ints)

less_int : (a b : ℤ) → is_lt (int_cmp a b) ≡ true → a <ℤ b
less_int a b h = by (int_lt a b) (int_lt b a) refl h
  where
    by : (c d : Bool) → int_lt a b ≡ c → is_lt (cond c Less (cond d Greater Equal)) ≡ true → a <ℤ b
    by true d e k = grind (arith, ints)
    by false true e k = absurd (false≢true k)
    by false false e k = absurd (false≢true k)

equal_int : (a b : ℤ) → is_eq (int_cmp a b) ≡ true → a ≡ b
equal_int a b h = by (int_lt a b) (int_lt b a) refl refl h
  where
    by : (c d : Bool) → int_lt a b ≡ c → int_lt b a ≡ d → is_eq (cond c Less (cond d Greater Equal)) ≡ true → a ≡ b
    by true d e f k = absurd (false≢true k)
    by false true e f k = absurd (false≢true k)
    by false false e f k = grind (arith, ints)

greater_int : (a b : ℤ) → is_lt (int_cmp a b) ≡ false → is_eq (int_cmp a b) ≡ false → b <ℤ a
greater_int a b h g = by (int_lt a b) (int_lt b a) refl refl h g
  where
    by : (c d : Bool) → int_lt a b ≡ c → int_lt b a ≡ d → is_lt (cond c Less (cond d Greater Equal)) ≡ false → is_eq (cond c Less (cond d Greater Equal)) ≡ false → b <ℤ a
    by true d e f k l = absurd (false≢true (sym k))
    by false true e f k l = grind (arith, ints)
    by false false e f k l = absurd (false≢true (sym l))

or_same : (a c : Bool) → (a || c) ≡ (a || (a || c))
or_same true c = refl
or_same false c = refl

or_turn : (a b c : Bool) → (b || (a || c)) ≡ (a || (b || c))
or_turn true true c = refl
or_turn true false c = refl
or_turn false b c = refl

any-put : (u x : ℤ) (ys : List ℤ) → list_any (int_eq u) (put_in_order int_cmp x ys) ≡ (int_eq u x || list_any (int_eq u) ys)
any-put u x [] = refl
any-put u x (y ∷ ys) = by (is_lt (int_cmp x y)) (is_eq (int_cmp x y)) refl (any-put u x ys)
  where
    by : (c d : Bool) → is_eq (int_cmp x y) ≡ d → list_any (int_eq u) (put_in_order int_cmp x ys) ≡ (int_eq u x || list_any (int_eq u) ys)
        → list_any (int_eq u) (cond c (x ∷ y ∷ ys) (cond d (y ∷ ys) (y ∷ put_in_order int_cmp x ys))) ≡ (int_eq u x || (int_eq u y || list_any (int_eq u) ys))
    by true d e rest = refl
    by false true e rest = subst (λ z. (int_eq u y || list_any (int_eq u) ys) ≡ (int_eq u z || (int_eq u y || list_any (int_eq u) ys))) (sym (equal_int x y e)) (or_same (int_eq u y) (list_any (int_eq u) ys))
    by false false e rest = ap (λ r. int_eq u y || r) rest ∙ or_turn (int_eq u x) (int_eq u y) (list_any (int_eq u) ys)

any-in_order : (u : ℤ) (xs : List ℤ) → list_any (int_eq u) (in_order int_cmp xs) ≡ list_any (int_eq u) xs
any-in_order u [] = refl
any-in_order u (x ∷ xs) = any-put u x (in_order int_cmp xs) ∙ ap (λ r. int_eq u x || r) (any-in_order u xs)

below-put : (t x : ℤ) (ys : List ℤ) → t <ℤ x → AllByRecursion (λ u. t <ℤ u) ys → AllByRecursion (λ u. t <ℤ u) (put_in_order int_cmp x ys)
below-put t x [] h a = (h, tt)
below-put t x (y ∷ ys) h a = by (is_lt (int_cmp x y)) (is_eq (int_cmp x y)) (below-put t x ys h a.1)
  where
    by : (c d : Bool) → AllByRecursion (λ u. t <ℤ u) (put_in_order int_cmp x ys)
        → AllByRecursion (λ u. t <ℤ u) (cond c (x ∷ y ∷ ys) (cond d (y ∷ ys) (y ∷ put_in_order int_cmp x ys)))
    by true d rest = (h, a)
    by false true rest = a
    by false false rest = (a.0, rest)

below-less : (t x : ℤ) (ys : List ℤ) → x <ℤ t → AllByRecursion (λ u. t <ℤ u) ys → AllByRecursion (λ u. x <ℤ u) ys
below-less t x [] h a = tt
below-less t x (y ∷ ys) h a = let first = a.0 in (grind (arith, ints), below-less t x ys h a.1)

ascending-put : (x : ℤ) (ys : List ℤ) → IsAscending ys → IsAscending (put_in_order int_cmp x ys)
ascending-put x [] a = (tt, tt)
ascending-put x (y ∷ ys) a = by (is_lt (int_cmp x y)) (is_eq (int_cmp x y)) refl refl (ascending-put x ys a.1)
  where
    by : (c d : Bool) → is_lt (int_cmp x y) ≡ c → is_eq (int_cmp x y) ≡ d → IsAscending (put_in_order int_cmp x ys)
        → IsAscending (cond c (x ∷ y ∷ ys) (cond d (y ∷ ys) (y ∷ put_in_order int_cmp x ys)))
    by true d e f rest = let less = less_int x y e in ((less, below-less y x ys less a.0), a)
    by false true e f rest = a
    by false false e f rest = (below-put y x ys (greater_int x y e f) a.0, rest)

ascending-in_order : (xs : List ℤ) → IsAscending (in_order int_cmp xs)
ascending-in_order [] = tt
ascending-in_order (x ∷ xs) = ascending-put x (in_order int_cmp xs) (ascending-in_order xs)

below-filter : (t : ℤ) (p : ℤ → Bool) (xs : List ℤ) → AllByRecursion (λ u. t <ℤ u) xs → AllByRecursion (λ u. t <ℤ u) (filter p xs)
below-filter t p [] a = tt
below-filter t p (x ∷ xs) a = by (p x) (below-filter t p xs a.1)
  where
    by : (c : Bool) → AllByRecursion (λ u. t <ℤ u) (filter p xs) → AllByRecursion (λ u. t <ℤ u) (cond c (x ∷ filter p xs) (filter p xs))
    by true rest = (a.0, rest)
    by false rest = rest

ascending-filter : (p : ℤ → Bool) (xs : List ℤ) → IsAscending xs → IsAscending (filter p xs)
ascending-filter p [] a = tt
ascending-filter p (x ∷ xs) a = by (p x) (ascending-filter p xs a.1)
  where
    by : (c : Bool) → IsAscending (filter p xs) → IsAscending (cond c (x ∷ filter p xs) (filter p xs))
    by true rest = (below-filter x p xs a.0, rest)
    by false rest = rest

pub segments_are_in_order : SegmentsAreInOrder
unfolding beginnings
segments_are_in_order tie book id kind from to = ascending-filter _ (in_order int_cmp (from ∷ bounds (entries_for book id kind))) (ascending-in_order (from ∷ bounds (entries_for book id kind)))

-- ---- where a segment begins

-- instants of which none is u
outside_of : (u : ℤ) (bs : List ℤ) → list_any (int_eq u) bs ≡ false → AllByRecursion (λ b. (b ≤ℤ (u -ℤ pos 1)) ⊎ (u <ℤ b)) bs
outside_of u [] h = tt
outside_of u (b ∷ bs) h = let p = or_parts (int_eq u b) (list_any (int_eq u) bs) h in (by (int_lt u b) refl p.0, outside_of u bs p.1)
  where
    by : (c : Bool) → int_lt u b ≡ c → int_eq u b ≡ false → (b ≤ℤ (u -ℤ pos 1)) ⊎ (u <ℤ b)
    by true e n = inr (grind (arith, ints))
    by false e n = inl (grind (arith, ints))

one_less : (u : ℤ) → (u -ℤ pos 1) ≤ℤ u
one_less u = grind (arith, ints)

-- where what governs differs from the instant before, something starts or ends
changes_at_bounds : (es : List Entry) (u : ℤ) → not (same_winner (winner_at es (u -ℤ pos 1)) (winner_at es u)) ≡ true → list_any (int_eq u) (bounds es) ≡ true
changes_at_bounds es u h = by (list_any (int_eq u) (bounds es)) refl
  where
    by : (c : Bool) → list_any (int_eq u) (bounds es) ≡ c → c ≡ true
    by true e = refl
    by false e =
        let same = same_from_winner (winner_at es (u -ℤ pos 1)) (winner_at es u) (winner_same (u -ℤ pos 1) u (one_less u) es (outside_of u (bounds es) e)) in
        absurd (both_ways (not (same_winner (winner_at es (u -ℤ pos 1)) (winner_at es u))) (ap not same) h)

kept_if : (a b : Bool) → (a ≡ true → b ≡ true) → (a && b) ≡ a
kept_if true b h = h refl
kept_if false b h = refl

-- an instant that passes is among those that are looked at
passes_there : (es : List Entry) (from u : ℤ) (a b c : Bool)
    → (a && (b && (c && (int_eq u from || not (same_winner (winner_at es (u -ℤ pos 1)) (winner_at es u)))))) ≡ true
    → (int_eq u from || list_any (int_eq u) (bounds es)) ≡ true
passes_there es from u true true true h = by (int_eq u from) h
  where
    by : (d : Bool) → (d || not (same_winner (winner_at es (u -ℤ pos 1)) (winner_at es u))) ≡ true → (d || list_any (int_eq u) (bounds es)) ≡ true
    by true k = refl
    by false k = changes_at_bounds es u k
passes_there es from u true true false h = absurd (false≢true h)
passes_there es from u true false c h = absurd (false≢true h)
passes_there es from u false b c h = absurd (false≢true h)

abbrev passes : List Entry → ℤ → ℤ → ℤ → Bool
passes es from to u =
    int_le from u && (int_lt u to && (is_some (winner_at es u) && (int_eq u from || not (same_winner (winner_at es (u -ℤ pos 1)) (winner_at es u)))))

begin_at_changes : (es : List Entry) (from to u : ℤ) → list_any (int_eq u) (filter (passes es from to) (in_order int_cmp (from ∷ bounds es))) ≡ passes es from to u
begin_at_changes es from to u =
    any-filter_same (int_eq u) (passes es from to) (passes es from to u) (λ k h. ap (passes es from to) (sym (same_int u k h))) (in_order int_cmp (from ∷ bounds es))
    ∙ ap (λ r. passes es from to u && r) (any-in_order u (from ∷ bounds es))
    ∙ kept_if (passes es from to u) (int_eq u from || list_any (int_eq u) (bounds es))
    (passes_there es from u (int_le from u) (int_lt u to) (is_some (winner_at es u)))

-- where the lines of a list begin, by a governor and the instants that are looked at
abbrev starts_by : (ℤ → Option Winner) → List ℤ → ℤ → ℤ → List ℤ
starts_by g bs from to =
    filter (λ u. int_le from u && (int_lt u to && (is_some (g u) && (int_eq u from || not (same_winner (g (u -ℤ pos 1)) (g u))))))
    (in_order int_cmp (from ∷ bs))

begin_by : (tie : Tie) (book : Book) (id : List ℕ) (kind : PayloadType) (from to : ℤ)
    → beginnings tie book id kind from to
    ≡ starts_by (winner_at (ranked_entries tie book id kind)) (bounds (ranked_entries tie book id kind)) from to
unfolding beginnings
begin_by tie book id kind from to =
    ap (λ g. starts_by g (bounds (entries_for book id kind)) from to) (governs_winners tie book id kind)
    ∙ ap (λ bs. starts_by (winner_at (ranked_entries tie book id kind)) bs from to) (sym (bounds_ranked tie (entries_for book id kind)))

passes_by : (tie : Tie) (book : Book) (id : List ℕ) (kind : PayloadType) (from to u : ℤ)
    → (int_le from u && (int_lt u to && begins tie book id kind from u)) ≡ passes (ranked_entries tie book id kind) from to u
passes_by tie book id kind from to u =
    ap (λ (g : ℤ → Option Winner). int_le from u && (int_lt u to && (is_some (g u) && (int_eq u from || not (same_winner (g (u -ℤ pos 1)) (g u))))))
    (governs_winners tie book id kind)

pub segments_begin_at_changes : SegmentsBeginAtChanges
segments_begin_at_changes tie book id kind from to u =
    ap (λ (l : List ℤ). list_any (int_eq u) l) (begin_by tie book id kind from to)
    ∙ begin_at_changes (ranked_entries tie book id kind) from to u
    ∙ sym (passes_by tie book id kind from to u)

-- ---- what a segment shows

before_end : (e : End) (to v : ℤ) → v <ℤ end_within to e → is_before v e ≡ true
before_end (At t) to v h = by (int_lt t to) refl h
  where
    by : (c : Bool) → int_lt t to ≡ c → v <ℤ (cond c t to) → int_lt v t ≡ true
    by true e k = grind (arith, ints)
    by false e k = grind (arith, ints)
before_end Endless to v h = refl

pub segments_show_one : SegmentsShowOne
unfolding until
segments_show_one tie book id kind to u v le h =
    let es = ranked_entries tie book id kind in
    governs_wins tie book id kind v
    ∙ same_before_next es u v le (before_end (next es u) to v h)
    ∙ sym (governs_wins tie book id kind u)

-- from an instant that is governed back to where its segment begins
abbrev Begun : List Entry → ℤ → ℤ → Type 0
Begun es from v =
    (u : ℤ) × (from ≤ℤ u) × (u ≤ℤ v) × ((is_some (winner_at es u) && (int_eq u from || not (same_winner (winner_at es (u -ℤ pos 1)) (winner_at es u)))) ≡ true)
    × ((w : ℤ) → u ≤ℤ w → w ≤ℤ v → winner_at es w ≡ winner_at es v)

both_true : (a b : Bool) → a ≡ true → b ≡ true → (a && b) ≡ true
both_true a b p q = rw (p, q) refl

second_true : (a b : Bool) → b ≡ true → (a || b) ≡ true
second_true true b q = refl
second_true false b q = q

first_true : (a b : Bool) → a ≡ true → (a || b) ≡ true
first_true a b p = rw p refl

begun : (es : List Entry) (from : ℤ) (n : ℕ) (v : ℤ) → v ≡ from +ℤ pos n → is_some (winner_at es v) ≡ true → Begun es from v
begun es from zero v e h =
    let same : int_eq v from ≡ true = grind (arith, ints) in (
      v,
      grind (arith, ints),
      grind (arith, ints),
      both_true (is_some (winner_at es v)) _ h (first_true (int_eq v from) _ same),
      λ w low high. ap (winner_at es) (between v w low high),
    )
  where
    between : (a w : ℤ) → a ≤ℤ w → w ≤ℤ a → w ≡ a
    between a w low high = grind (arith, ints)
begun es from (suc n) v e h = by (same_winner (winner_at es (v -ℤ pos 1)) (winner_at es v)) refl (begun es from n (v -ℤ pos 1) (stepped n v e))
  where
    stepped : (n : ℕ) (v : ℤ) → v ≡ from +ℤ pos (suc n) → (v -ℤ pos 1) ≡ from +ℤ pos n
    stepped n v e = grind (arith, ints)

    between : (a w : ℤ) → a ≤ℤ w → w ≤ℤ a → w ≡ a
    between a w low high = grind (arith, ints)

    not_below : (w : ℤ) → int_le w (v -ℤ pos 1) ≡ false → w ≤ℤ v → w ≡ v
    not_below w f high = grind (arith, ints)

    by : (c : Bool) → same_winner (winner_at es (v -ℤ pos 1)) (winner_at es v) ≡ c
        → (is_some (winner_at es (v -ℤ pos 1)) ≡ true → Begun es from (v -ℤ pos 1)) → Begun es from v
    by true same earlier =
        let one : winner_at es (v -ℤ pos 1) ≡ winner_at es v = winner_from_same (winner_at es (v -ℤ pos 1)) (winner_at es v) same in
        let (u, low, high, begins, constant) = earlier (ap is_some one ∙ h) in
        (u, low, grind (arith, ints), begins, λ w a b. split w a b one constant (int_le w (v -ℤ pos 1)) refl)
      where
        split : {u : ℤ} (w : ℤ) → u ≤ℤ w → w ≤ℤ v → winner_at es (v -ℤ pos 1) ≡ winner_at es v
            → ((x : ℤ) → u ≤ℤ x → x ≤ℤ (v -ℤ pos 1) → winner_at es x ≡ winner_at es (v -ℤ pos 1))
            → (c : Bool) → int_le w (v -ℤ pos 1) ≡ c → winner_at es w ≡ winner_at es v
        split w a b one constant true f = constant w a (grind (arith, ints)) ∙ one
        split w a b one constant false f = ap (winner_at es) (not_below w f b)
    by false apart earlier = (
      v,
      after_from v n e,
      grind (arith, ints),
      both_true (is_some (winner_at es v)) _ h (second_true (int_eq v from) _ (ap not apart)),
      λ w low high. ap (winner_at es) (between v w low high),
    )
      where
        after_from : (v : ℤ) (n : ℕ) → v ≡ from +ℤ pos (suc n) → from ≤ℤ v
        after_from v n e = grind (arith, ints)

-- an instant up to which nothing changes comes before the next change
constant_before : (es : List Entry) (u v : ℤ) (e : End) → IsUntil (winner_at es) u e → u ≤ℤ v → ((w : ℤ) → u ≤ℤ w → w ≤ℤ v → winner_at es w ≡ winner_at es v) → is_before v e ≡ true
constant_before es u v (At t) h le constant = by (int_lt v t) refl
  where
    within : int_lt v t ≡ false → u <ℤ t → (u ≤ℤ t) × (t ≤ℤ v)
    within f less = (grind (arith, ints), grind (arith, ints))

    self : (x : ℤ) → x ≤ℤ x
    self x = grind (arith, ints)

    by : (c : Bool) → int_lt v t ≡ c → c ≡ true
    by true f = refl
    by false f =
        let place = within f h.0 in
        absurd (h.1 (constant t place.0 place.1 ∙ sym (constant u (self u) le)))
constant_before es u v Endless h le constant = refl

inside_end : (e : End) (to v : ℤ) → v <ℤ to → is_before v e ≡ true → v <ℤ end_within to e
inside_end (At t) to v a b = by (int_lt t to) b
  where
    by : (c : Bool) → int_lt v t ≡ true → v <ℤ (cond c t to)
    by true k = grind (arith, ints)
    by false k = a
inside_end Endless to v a b = a

distance : (from v : ℤ) → from ≤ℤ v → (n : ℕ) × (v ≡ from +ℤ pos n)
distance from v le = (unsigned_abs (v -ℤ from), grind (arith, ints))

cover_all : (es : List Entry) (from to v : ℤ) → from ≤ℤ v → v <ℤ to → is_some (winner_at es v) ≡ true
    → (u : ℤ) × (passes es from to u ≡ true) × (u ≤ℤ v) × (v <ℤ end_within to (next es u))
cover_all es from to v le less h =
    let d = distance from v le in
    let (u, low, high, begins, constant) = begun es from d.0 v d.1 h in
    let from_test : int_le from u ≡ true = grind (arith, ints) in
    let to_test : int_lt u to ≡ true = grind (arith, ints) in (
      u,
      both_true (int_le from u) _ from_test (both_true (int_lt u to) _ to_test begins),
      high,
      inside_end (next es u) to v less (constant_before es u v (next es u) (next_is_until es u) high constant),
    )

pub segments_cover_all : SegmentsCoverAll
unfolding until
segments_cover_all tie book id kind from to v le less h =
    let es = ranked_entries tie book id kind in
    let (u, p, high, inside) = cover_all es from to v le less (sym (ap is_some (governs_wins tie book id kind v)) ∙ h) in
    (u, segments_begin_at_changes tie book id kind from to u ∙ passes_by tie book id kind from to u ∙ p, high, inside)

-- a later beginning does not lie on the line of an earlier one
apart : (es : List Entry) (from to u w : ℤ) → passes es from to u ≡ true → passes es from to w ≡ true → u <ℤ w → end_within to (next es u) ≤ℤ w
apart es from to u w p q less = by (int_lt w (end_within to (next es u))) refl
  where
    order : (a b : ℤ) → a <ℤ b → (a ≤ℤ (b -ℤ pos 1)) × (a ≤ℤ b) × ((b -ℤ pos 1) <ℤ b)
    order a b h = (grind (arith, ints), grind (arith, ints), grind (arith, ints))

    before : (e : End) (x y : ℤ) → x <ℤ y → is_before y e ≡ true → is_before x e ≡ true
    before (At t) x y h k = let late : int_lt y t ≡ true = k in grind (arith, ints)
    before Endless x y h k = refl

    not_first : int_le from u ≡ true → int_eq w from ≡ false
    not_first a = grind (arith, ints)

    by : (c : Bool) → int_lt w (end_within to (next es u)) ≡ c → end_within to (next es u) ≤ℤ w
    by false f = grind (arith, ints)
    by true f =
        let places = order u w less in
        let inside = before_end (next es u) to w (grind (arith, ints)) in
        let here = same_before_next es u w places.1 inside in
        let there = same_before_next es u (w -ℤ pos 1) places.0 (before (next es u) (w -ℤ pos 1) w places.2 inside) in
        let same = same_from_winner (winner_at es (w -ℤ pos 1)) (winner_at es w) (there ∙ sym here) in
        let begins = (and_parts (is_some (winner_at es w)) _ (and_parts (int_lt w to) _ (and_parts (int_le from w) _ q).1).1).1 in
        let differs : not (same_winner (winner_at es (w -ℤ pos 1)) (winner_at es w)) ≡ true = left_out (int_eq w from) _ (not_first (and_parts (int_le from u) _ p).0) begins in
        absurd (both_ways (not (same_winner (winner_at es (w -ℤ pos 1)) (winner_at es w))) (ap not same) differs)
      where
        left_out : (a b : Bool) → a ≡ false → (a || b) ≡ true → b ≡ true
        left_out true b n k = absurd (false≢true (sym n))
        left_out false b n k = k

pub segments_are_apart : SegmentsAreApart
unfolding until
segments_are_apart tie book id kind from to u w p q less =
    let es = ranked_entries tie book id kind in
    apart es from to u w (passing u p) (passing w q) less
  where
    passing : (x : ℤ) → list_any (int_eq x) (beginnings tie book id kind from to) ≡ true → passes (ranked_entries tie book id kind) from to x ≡ true
    passing x h = sym (passes_by tie book id kind from to x) ∙ sym (segments_begin_at_changes tie book id kind from to x) ∙ h

-- ---- types

-- something governs where an entry covers the instant
governed_any : (es : List Entry) (t : ℤ) → is_some (winner_at es t) ≡ list_any (λ e. covers e.span t) es
governed_any [] t = refl
governed_any (e ∷ es) t = by (covers e.span t) (governed_any es t)
  where
    by : (c : Bool) → is_some (winner_at es t) ≡ list_any (λ f. covers f.span t) es
        → is_some (option_map winner_of (first_of (cond c (e ∷ filter (λ f. covers f.span t) es) (filter (λ f. covers f.span t) es)))) ≡ (c || list_any (λ f. covers f.span t) es)
    by true rest = refl
    by false rest = rest

-- a span that covers an instant covers its start
covers_start : (s : Span) (t : ℤ) → covers s t ≡ true → covers s s.start ≡ true
covers_start s t h = let p = and_parts (int_le s.start t) (is_before t s.end) h in by s.end p.0 p.1
  where
    by : (e : End) → int_le s.start t ≡ true → is_before t e ≡ true → (int_le s.start s.start && is_before s.start e) ≡ true
    by (At u) a b = let less : int_lt t u ≡ true = b in grind (arith, ints)
    by Endless a b = grind (arith, ints)

starts_governed : (t : ℤ) (es part : List Entry) → ((f : Entry → Bool) → list_any f part ≡ true → list_any f es ≡ true)
    → list_any (λ e. covers e.span t) part ≡ true → list_any (λ e. is_some (winner_at es e.span.start)) part ≡ true
starts_governed t es [] up h = absurd (false≢true h)
starts_governed t es (e ∷ part) up h =
    by (covers e.span t) refl h (starts_governed t es part (λ f k. up f (or_right (f e) (list_any f part) k)))
  where
    or_right : (a b : Bool) → b ≡ true → (a || b) ≡ true
    or_right true b k = refl
    or_right false b k = k

    or_left : (a b : Bool) → a ≡ true → (a || b) ≡ true
    or_left true b k = refl
    or_left false b k = absurd (false≢true k)

    by : (c : Bool) → covers e.span t ≡ c → (c || list_any (λ f. covers f.span t) part) ≡ true
        → (list_any (λ f. covers f.span t) part ≡ true → list_any (λ f. is_some (winner_at es f.span.start)) part ≡ true)
        → (is_some (winner_at es e.span.start) || list_any (λ f. is_some (winner_at es f.span.start)) part) ≡ true
    by true own k rest =
        or_left (is_some (winner_at es e.span.start)) _
        (governed_any es e.span.start
        ∙ up (λ f. covers f.span e.span.start) (or_left (covers e.span e.span.start) _ (covers_start e.span t own)))
    by false own k rest = or_right (is_some (winner_at es e.span.start)) _ (rest k)

one_that_passes : {X : Type 0} (p : X → Bool) (xs : List X) → list_any p xs ≡ true → (x : X) × (p x ≡ true)
one_that_passes p [] h = absurd (false≢true h)
one_that_passes {X = X} p (x ∷ xs) h = by (p x) refl h (one_that_passes p xs)
  where
    by : (c : Bool) → p x ≡ c → (c || list_any p xs) ≡ true → (list_any p xs ≡ true → (y : X) × (p y ≡ true)) → (y : X) × (p y ≡ true)
    by true e k rest = (x, e)
    by false e k rest = rest k

-- a test of spans alone sees no ranks
any_ranked : (tie : Tie) (p : Span → Bool) (es : List Entry) → list_any (λ e. p e.span) (map (ranked tie) es) ≡ list_any (λ e. p e.span) es
any_ranked tie p [] = refl
any_ranked tie p (e ∷ es) = ap (λ b. p e.span || b) (any_ranked tie p es)

governed_by : (tie : Tie) (book : Book) (id : List ℕ) (kind : PayloadType)
    → is_governed tie book id kind
    ≡ list_any (λ e. is_some (winner_at (ranked_entries tie book id kind) e.span.start)) (ranked_entries tie book id kind)
governed_by tie book id kind =
    ap (λ (g : ℤ → Option Winner). list_any (λ e. is_some (g e.span.start)) (entries_for book id kind)) (governs_winners tie book id kind)
    ∙ sym (any_ranked tie (λ s. is_some (winner_at (ranked_entries tie book id kind) s.start)) (entries_for book id kind))

pub types_govern_sometime : TypesGovernSometime
types_govern_sometime tie book id kind =
    let es = ranked_entries tie book id kind in (
      λ h.
          let found = one_that_passes (λ (e : Entry). is_some (winner_at es e.span.start)) es (sym (governed_by tie book id kind) ∙ h) in
          (found.0.span.start, ap is_some (governs_wins tie book id kind found.0.span.start) ∙ found.1),
      λ h.
          governed_by tie book id kind
          ∙ starts_governed h.0 es es (λ f k. k) (sym (governed_any es h.0) ∙ sym (ap is_some (governs_wins tie book id kind h.0)) ∙ h.1),
    )

pub roll_tells_each : RollTellsEach
unfolding roll
roll_tells_each tie book kind t = refl

pub roll_tells_what_at_tells : RollTellsWhatAtTells
unfolding at
roll_tells_what_at_tells tie book kind t id h = (state_text (shown tie book id kind t) (until tie book id kind t), refl, rw h refl)
