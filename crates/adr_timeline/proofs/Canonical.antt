-- Canonical lists: where they change, and that what they show determines them.
use Rattle.std.proofs.Common.{◌≡◌, ◌≢◌, ℕ, zero, suc, ◌<◌, ◌≤◌, length, slice_get, slice_index_or, Bool, true, false, not, ◌&&◌, List, [], ◌∷◌, Option, Some, None, IsTrue, if◌then◌else◌, refl, sym, ◌∙◌, ap, subst, arith, ℤ, ◌≤ℤ◌, ◌<ℤ◌, int_le, int_lt, ◌⊎◌, inl, inr}
use Rattle.std.specs.List.Sorted.{IsPartitionedBy, IsPartitionPoint}
use Rattle.std.specs.Borrow.{Bor}
use Rattle.std.specs.Slice.{IsItemAt}
use Rattle.std.specs.Option.{option_copied}
use Rattle.std.proofs.lemmas.Option.{slice_get_past, slice_get-get_or}
use Rattle.std.proofs.lemmas.Int.{ints, by_lt_z}
use Rattle.std.proofs.lemmas.Bool.{false≢true, and_parts, and_from, false_from_ne_true}
use Rattle.adr_time.specs.declared.span.End.{End}
use Rattle.adr_time.specs.declared.span.End.TheVariants.{At, Endless}
use Rattle.adr_model.specs.declared.timeline.Segment.{Segment}
use Rattle.adr_model.specs.declared.timeline.Winner.{Winner}
use Rattle.adr_time.specs.Spans.{covers, is_before}
use Rattle.adr_model.specs.Timeline.{span_of}
use Rattle.adr_timeline.proofs.Segments.{winner_in, EndsBy, IsApart, IsLinked}
use Rattle.adr_timeline.specs.Open.{change_at, open_in, winner_at_open}
use Rattle.adr_model.specs.Answer.{IsUntil}
use Rattle.adr_model.specs.Timeline.{shows, CanonicalIsUnique}
use Rattle.adr_timeline.proofs.Words.{shows_is, canonical_linked, and_true}

-- the first instant after t where a segment starts or ends
abbrev pub change_after : List Segment → ℤ → End
change_after [] t = Endless
change_after (s ∷ ss) t = if covers (span_of s) t then s.end else (if int_lt t s.start then At s.start else change_after ss t)

-- something else is shown there
abbrev pub Changes : List Segment → ℤ → End → Type 0
Changes ss t (At u) = winner_in ss u ≢ winner_in ss t
Changes ss t Endless = Unit {0}

-- the least later instant where something else is shown
pub record IsNextChange (ss : List Segment) (t : ℤ) (e : End) : Type 0 where
  pub later : IsTrue (is_before t e)
  pub same : (u : ℤ) → t ≤ℤ u → IsTrue (is_before u e) → winner_in ss u ≡ winner_in ss t
  pub changes : Changes ss t e

-- the first segment starts at the instant or later
abbrev pub StartsFrom : List Segment → ℤ → Type 0
StartsFrom [] v = Unit {0}
StartsFrom (s ∷ ss) v = v ≤ℤ s.start

starts_after : (a : ℤ) (e : End) (b : ℤ) → is_before a e ≡ true → EndsBy e b → a <ℤ b
starts_after a (At u) b h k = grind (arith, ints)
starts_after a Endless b h k = absurd k

-- the rest starts after the first start
starts_rest : (s : Segment) (ss : List Segment) (v : ℤ) → is_before s.start s.end ≡ true → IsApart s ss → v ≤ℤ s.start → StartsFrom ss v
starts_rest s [] v n a h = tt
starts_rest s (r ∷ rs) v n a h = let k = starts_after s.start s.end r.start n a.0 in omega (arith, ints)

not_from : (a t : ℤ) (x : Bool) → t <ℤ a → (int_le a t && x) ≡ false
not_from a t true h = grind (arith, ints)
not_from a t false h = grind (arith, ints)

-- before the first start nothing is shown
pub none_before : (ss : List Segment) (v t : ℤ) → IsLinked ss → StartsFrom ss v → t <ℤ v → winner_in ss t ≡ None
none_before [] v t c f h = refl
none_before (s ∷ ss) v t c f h =
    let early : t <ℤ s.start = omega (arith, ints) in
    rw (not_from s.start t (is_before t s.end) early) (none_before ss v t c.2 (starts_rest s ss v c.0 c.1 f) h)

-- the rest starts at the end of the first
pub starts_end : (s : Segment) (ss : List Segment) (v : ℤ) → s.end ≡ At v → IsApart s ss → StartsFrom ss v
starts_end s [] v e a = tt
starts_end s (r ∷ rs) v e a = let k : EndsBy (At v) r.start = subst (λ (x : End). EndsBy x r.start) e a.0 in k

some_same : (a b : Winner) → Some a ≡ Some b → a ≡ b
some_same a b h = cc

none_some : (a : Winner) → None ≡ Some a → ⊥
none_some a h = cc

covered_start : (a : ℤ) (e : End) → is_before a e ≡ true → (int_le a a && is_before a e) ≡ true
covered_start a (At u) h = grind (arith, ints)
covered_start a Endless h = grind (arith, ints)

-- at its start a list winner_in its first winner
pub shows_start : (s : Segment) (ss : List Segment) → is_before s.start s.end ≡ true → winner_in (s ∷ ss) s.start ≡ Some s.winner
shows_start s ss n = rw (covered_start s.start s.end n)

cases_order : (x y : ℤ) → x ≤ℤ y → (x <ℤ y) ⊎ (x ≡ y)
cases_order x y k = by_lt_z x y (λ h. inl h) (λ h. inr (omega (arith, ints)))

-- where the first segment ends, the rest winner_in another winner or none
end_differs : (s : Segment) (ss : List Segment) (v : ℤ) → s.end ≡ At v → IsApart s ss → IsLinked ss → winner_in ss v ≢ Some s.winner
end_differs s [] v e a c h = none_some s.winner h
end_differs s (r ∷ rs) v e a c h = elim (cases_order v r.start (starts_end s (r ∷ rs) v e a)) [
  | inl early ↦ none_some s.winner (sym (none_before (r ∷ rs) r.start v c (omega (arith, ints)) early) ∙ h)
  | inr here ↦ a.1 (e ∙ ap At here) (some_same s.winner r.winner (sym h ∙ (rw here (shows_start r rs c.0))))
]

-- covered at an instant, a later one before the end is covered too
covers_later : (a : ℤ) (e : End) (t u : ℤ) → (int_le a t && is_before t e) ≡ true → t ≤ℤ u → is_before u e ≡ true → (int_le a u && is_before u e) ≡ true
covers_later a (At v) t u h k b = grind (arith, ints)
covers_later a Endless t u h k b = grind (arith, ints)

-- from the end on nothing is covered
past : (a : ℤ) (e : End) (t : ℤ) → (int_le a t && is_before t e) ≡ false → int_lt t a ≡ false → EndsBy e t
past a (At v) t h k = grind (arith, ints)
past a Endless t h k = absurd (grind (arith, ints))

not_past : (a : ℤ) (e : End) (t u : ℤ) → EndsBy e t → t ≤ℤ u → (int_le a u && is_before u e) ≡ false
not_past a (At v) t u h k = grind (arith, ints)
not_past a Endless t u h k = absurd h

is_below : (t u : ℤ) → int_lt t u ≡ true → t <ℤ u
is_below t u h = grind (arith, ints)

-- what comes after the first segment is shown by the rest
shows_rest : (s : Segment) (ss : List Segment) (t u : ℤ) → EndsBy s.end t → t ≤ℤ u → winner_in (s ∷ ss) u ≡ winner_in ss u
shows_rest s ss t u e h = rw (not_past s.start s.end t u e h)

changes_end : (s : Segment) (ss : List Segment) (t : ℤ) (e : End) → s.end ≡ e → IsLinked (s ∷ ss) → winner_in (s ∷ ss) t ≡ Some s.winner → Changes (s ∷ ss) t e
changes_end s ss t Endless k c h = tt
changes_end s ss t (At v) k c h = λ same.
    let here : EndsBy s.end v = rw k (let r : v ≤ℤ v = omega (arith, ints) in r) in
    end_differs s ss v k c.1 c.2 (sym (shows_rest s ss v v here (omega (arith, ints))) ∙ (same ∙ h))

changes_rest : (s : Segment) (ss : List Segment) (t : ℤ) (e : End) → EndsBy s.end t → is_before t e ≡ true → Changes ss t e → Changes (s ∷ ss) t e
changes_rest s ss t Endless h b k = tt
changes_rest s ss t (At v) h b k = λ same.
    k (sym (shows_rest s ss t v h (let q = is_below t v b in omega (arith, ints))) ∙ (same ∙ shows_rest s ss t t h (omega (arith, ints))))

change_cons : (s : Segment) (ss : List Segment) (t : ℤ) (x y : Bool) → covers (span_of s) t ≡ x → int_lt t s.start ≡ y → IsLinked (s ∷ ss) → IsNextChange ss t (change_after ss t) → IsNextChange (s ∷ ss) t (if x then s.end else (if y then At s.start else change_after ss t))
change_cons s ss t true y h k c ih = record {
  later = (and_parts (int_le s.start t) (is_before t s.end) h).1;
  same = λ u le b. rw (h, covers_later s.start s.end t u h le b);
  changes = changes_end s ss t s.end refl c (rw h);
}
change_cons s ss t false true h k c ih =
    let none : (u : ℤ) → int_lt u s.start ≡ true → winner_in (s ∷ ss) u ≡ None = λ u b. none_before (s ∷ ss) s.start u c (omega (arith, ints)) (is_below u s.start b) in
    record {
      later = k;
      same = λ u le b. none u b ∙ sym (none t k);
      changes = λ same. none_some s.winner (sym (none t k) ∙ (sym same ∙ shows_start s ss c.0));
    }
change_cons s ss t false false h k c ih =
    let over = past s.start s.end t h k in
    record {
      later = ih.later;
      same = λ u le b. shows_rest s ss t u over le ∙ (ih.same u le b ∙ sym (shows_rest s ss t t over (omega (arith, ints))));
      changes = changes_rest s ss t (change_after ss t) over ih.later ih.changes;
    }

pub change_after_is : (ss : List Segment) (t : ℤ) → IsLinked ss → IsNextChange ss t (change_after ss t)
change_after_is [] t c = record { later = refl; same = λ u le b. refl; changes = tt }
change_after_is (s ∷ ss) t c = change_cons s ss t (covers (span_of s) t) (int_lt t s.start) refl refl c (change_after_is ss t c.2)

-- at an instant that its first segment covers a list winner_in its winner
shows_head : (s : Segment) (ss : List Segment) (t : ℤ) → covers (span_of s) t ≡ true → winner_in (s ∷ ss) t ≡ Some s.winner
shows_head s ss t h = rw h

-- what is shown at the start of the other's first segment
not_earlier : (s r : Segment) (ss rs : List Segment) → IsLinked (s ∷ ss) → IsLinked (r ∷ rs) → ((t : ℤ) → winner_in (s ∷ ss) t ≡ winner_in (r ∷ rs) t) → r.start ≤ℤ s.start
not_earlier s r ss rs c d h = by_lt_z s.start r.start
    (λ early. absurd (none_some s.winner (sym (none_before (r ∷ rs) r.start s.start d (omega (arith, ints)) early) ∙ (sym (h s.start) ∙ shows_start s ss c.0))))
    (λ late. late)

-- nor does the first segment end earlier
not_shorter : (s r : Segment) (ss rs : List Segment) (v : ℤ) → s.end ≡ At v → s.start ≡ r.start → s.winner ≡ r.winner → IsLinked (s ∷ ss) → IsLinked (r ∷ rs) → ((t : ℤ) → winner_in (s ∷ ss) t ≡ winner_in (r ∷ rs) t) → is_before v r.end ≡ false
not_shorter s r ss rs v e st wi c d h = false_from_ne_true (is_before v r.end) (λ longer.
    let long : int_lt s.start v ≡ true = subst (λ (x : End). is_before s.start x ≡ true) e c.0 in
    let begun : int_le r.start v ≡ true = grind (arith, ints) in
    let here : EndsBy s.end v = rw e (let q : v ≤ℤ v = omega (arith, ints) in q) in
    end_differs s ss v e c.1 c.2 (sym (shows_rest s ss v v here (omega (arith, ints))) ∙ (h v ∙ (shows_head r rs v (and_from (int_le r.start v) (is_before v r.end) begun longer) ∙ ap (λ w. Some w) (sym wi)))))

same_ends : (e f : End) → ((v : ℤ) → e ≡ At v → is_before v f ≡ false) → ((v : ℤ) → f ≡ At v → is_before v e ≡ false) → e ≡ f
same_ends (At u) (At v) h k = ap At (neither u v (h u refl) (k v refl))
  where
    neither : (x y : ℤ) → int_lt x y ≡ false → int_lt y x ≡ false → x ≡ y
    neither x y p q = grind (arith, ints)
same_ends (At u) Endless h k = absurd (false≢true (sym (h u refl)))
same_ends Endless (At v) h k = absurd (false≢true (sym (k v refl)))
same_ends Endless Endless h k = refl

-- nothing comes after an endless segment
pub after_endless : (s : Segment) (ss : List Segment) (t : ℤ) → s.end ≡ Endless → IsApart s ss → winner_in ss t ≡ None
after_endless s [] t e a = refl
after_endless s (r ∷ rs) t e a = absurd (subst (λ (x : End). EndsBy x r.start) e a.0)

same_rests : (s r : Segment) (ss rs : List Segment) (e : End) → s.end ≡ e → r.end ≡ e → IsLinked (s ∷ ss) → IsLinked (r ∷ rs) → ((t : ℤ) → winner_in (s ∷ ss) t ≡ winner_in (r ∷ rs) t) → (t : ℤ) → winner_in ss t ≡ winner_in rs t
same_rests s r ss rs Endless k l c d h t = after_endless s ss t k c.1 ∙ sym (after_endless r rs t l d.1)
same_rests s r ss rs (At v) k l c d h t =
    let at_v : (x : Segment) → x.end ≡ At v → EndsBy x.end v = λ x p. rw p (let q : v ≤ℤ v = omega (arith, ints) in q) in
    by_lt_z t v
    (λ early. none_before ss v t c.2 (starts_end s ss v k c.1) early ∙ sym (none_before rs v t d.2 (starts_end r rs v l d.1) early))
    (λ late. sym (shows_rest s ss v t (at_v s k) late) ∙ (h t ∙ shows_rest r rs v t (at_v r l) late))

segment_ext : (a b : ℤ) (e f : End) (v w : Winner) → a ≡ b → e ≡ f → v ≡ w → ◌≡◌ {A = Segment} (record { start = a; end = e; winner = v }) (record { start = b; end = f; winner = w })
segment_ext a b e f v w h k l = cc

-- two canonical lists that show the same at every instant are equal
pub canonical_unique : (xs ys : List Segment) → IsLinked xs → IsLinked ys → ((t : ℤ) → winner_in xs t ≡ winner_in ys t) → xs ≡ ys
canonical_unique [] [] c d h = refl
canonical_unique [] (r ∷ rs) c d h = absurd (none_some r.winner (h r.start ∙ shows_start r rs d.0))
canonical_unique (s ∷ ss) [] c d h = absurd (none_some s.winner (sym (h s.start) ∙ shows_start s ss c.0))
canonical_unique (s ∷ ss) (r ∷ rs) c d h =
    let back : (t : ℤ) → winner_in (r ∷ rs) t ≡ winner_in (s ∷ ss) t = λ t. sym (h t) in
    let le = not_earlier s r ss rs c d h in
    let ge = not_earlier r s rs ss d c back in
    let start : s.start ≡ r.start = omega (arith, ints) in
    let wins : s.winner ≡ r.winner = some_same s.winner r.winner (sym (shows_start s ss c.0) ∙ (h s.start ∙ (rw start (shows_start r rs d.0)))) in
    let ends : s.end ≡ r.end = same_ends s.end r.end (λ v e. not_shorter s r ss rs v e start wins c d h) (λ v e. not_shorter r s rs ss v e (sym start) (sym wins) d c back) in
    cons_same s r ss rs (segment_ext s.start r.start s.end r.end s.winner r.winner start ends wins) (canonical_unique ss rs c.2 d.2 (same_rests s r ss rs r.end ends refl c d h))
  where
    cons_same : (x y : Segment) (xs ys : List Segment) → x ≡ y → xs ≡ ys → x ∷ xs ≡ y ∷ ys
    cons_same x y xs ys p q = cc

-- what follows the first segment that has not ended says it all
open_covered : (a : ℤ) (e : End) (t : ℤ) → is_before t e ≡ true → (int_le a t && is_before t e) ≡ int_le a t
open_covered a e t h = rw h (and_true (int_le a t))

ended_covered : (a : ℤ) (e : End) (t : ℤ) → is_before t e ≡ false → (int_le a t && is_before t e) ≡ false
ended_covered a e t h = rw h (and_false (int_le a t))
  where
    and_false : (x : Bool) → (x && false) ≡ false
    and_false true = refl
    and_false false = refl

-- the rest starts after an instant before the first start
rest_none : (s : Segment) (ss : List Segment) (t : ℤ) (x : Bool) → int_le s.start t ≡ x → IsLinked (s ∷ ss) → (if x then Some s.winner else winner_in ss t) ≡ (if x then Some s.winner else None)
rest_none s ss t true h c = refl
rest_none s ss t false h c = none_before ss s.start t c.2 (starts_rest s ss s.start c.0 c.1 (let r : s.start ≤ℤ s.start = omega (arith, ints) in r)) (before s.start t h)
  where
    before : (a u : ℤ) → int_le a u ≡ false → u <ℤ a
    before a u h = grind (arith, ints)

ended_starts : (a : ℤ) (e : End) (t : ℤ) → is_before a e ≡ true → is_before t e ≡ false → int_lt t a ≡ false
ended_starts a (At u) t h k = grind (arith, ints)
ended_starts a Endless t h k = absurd (false≢true (sym k))

open_starts : (a t : ℤ) (x : Bool) (e f : End) → int_le a t ≡ x → (if x then e else (if int_lt t a then At a else f)) ≡ (if x then e else At a)
open_starts a t true e f h = refl
open_starts a t false e f h = rw (after a t h)
  where
    after : (b u : ℤ) → int_le b u ≡ false → int_lt u b ≡ true
    after b u h = grind (arith, ints)

-- how far the segments have ended by an instant
pub record IsOpenAt (ss : List Segment) (t : ℤ) (i : ℕ) : Type 0 where
  pub ended : (k : ℕ) (d : Segment) → k < i → is_before t (slice_index_or ss k d).end ≡ false
  pub lasting : (k : ℕ) (d : Segment) → i ≤ k → k < length ss → is_before t (slice_index_or ss k d).end ≡ true

rest_open : (s : Segment) (ss : List Segment) (t : ℤ) (i : ℕ) → IsOpenAt (s ∷ ss) t (suc i) → IsOpenAt ss t i
rest_open s ss t i o = record {
  ended = λ k d lt. o.ended (suc k) d (omega arith);
  lasting = λ k d le lt. o.lasting (suc k) d (omega arith) (omega arith);
}

pub open_found : (ss : List Segment) (t : ℤ) (i : ℕ) → IsOpenAt ss t i → slice_get ss i ≡ open_in ss t
open_found [] t i o = refl
open_found (s ∷ ss) t zero o = rw (o.lasting 0 s (omega arith) (omega arith)) refl
open_found (s ∷ ss) t (suc i) o = rw (o.ended 0 s (omega arith)) (open_found ss t i (rest_open s ss t i o))

winner_either : (s : Segment) (ss : List Segment) (t : ℤ) (x : Bool) → is_before t s.end ≡ x → IsLinked (s ∷ ss) → winner_in ss t ≡ winner_at_open (open_in ss t) t → winner_in (s ∷ ss) t ≡ winner_at_open (if x then Some s else open_in ss t) t
winner_either s ss t true h c rest = rw (open_covered s.start s.end t h) (rest_none s ss t (int_le s.start t) refl c)
winner_either s ss t false h c rest = rw (ended_covered s.start s.end t h) rest

pub winner_open : (ss : List Segment) (t : ℤ) → IsLinked ss → winner_in ss t ≡ winner_at_open (open_in ss t) t
winner_open [] t c = refl
winner_open (s ∷ ss) t c = winner_either s ss t (is_before t s.end) refl c (winner_open ss t c.2)

change_either : (s : Segment) (ss : List Segment) (t : ℤ) (x : Bool) → is_before t s.end ≡ x → IsLinked (s ∷ ss) → change_after ss t ≡ change_at (open_in ss t) t → change_after (s ∷ ss) t ≡ change_at (if x then Some s else open_in ss t) t
change_either s ss t true h c rest = rw (open_covered s.start s.end t h) (open_starts s.start t (int_le s.start t) s.end (change_after ss t) refl)
change_either s ss t false h c rest = rw (ended_covered s.start s.end t h, ended_starts s.start s.end t c.0 h) rest

change_open : (ss : List Segment) (t : ℤ) → IsLinked ss → change_after ss t ≡ change_at (open_in ss t) t
change_open [] t c = refl
change_open (s ∷ ss) t c = change_either s ss t (is_before t s.end) refl c (change_open ss t c.2)

-- a segment that comes later ends later
pub ends_rise : (e : End) (a : ℤ) (f : End) (t : ℤ) → EndsBy e a → is_before a f ≡ true → is_before t e ≡ true → is_before t f ≡ true
ends_rise (At u) a (At v) t h k l = grind (arith, ints)
ends_rise e a Endless t h k l = refl
ends_rise Endless a f t h k l = absurd h

last_rise : (s : Segment) (ss : List Segment) (t : ℤ) (j : ℕ) (d : Segment) → IsLinked (s ∷ ss) → j < length ss → is_before t s.end ≡ true → is_before t (slice_index_or ss j d).end ≡ true
last_rise s [] t j d c lt h = absurd (omega arith)
last_rise s (r ∷ rs) t zero d c lt h = ends_rise s.end r.start r.end t c.1.0 c.2.0 h
last_rise s (r ∷ rs) t (suc j) d c lt h = last_rise r rs t j d c.2 (omega arith) (ends_rise s.end r.start r.end t c.1.0 c.2.0 h)

-- where one segment has not ended, no later one has
pub ends_in_order : (ss : List Segment) (t : ℤ) (i j : ℕ) (d : Segment) → IsLinked ss → i ≤ j → j < length ss → is_before t (slice_index_or ss i d).end ≡ true → is_before t (slice_index_or ss j d).end ≡ true
ends_in_order [] t i j d c le lt h = absurd (omega arith)
ends_in_order (s ∷ ss) t zero zero d c le lt h = h
ends_in_order (s ∷ ss) t zero (suc j) d c le lt h = last_rise s ss t j d c (omega arith) h
ends_in_order (s ∷ ss) t (suc i) zero d c le lt h = absurd (omega arith)
ends_in_order (s ∷ ss) t (suc i) (suc j) d c le lt h = ends_in_order ss t i j d c.2 (omega arith) (omega arith) h

-- the first instant where a segment starts or ends is where something else is shown
pub until_is : (ss : List Segment) (t : ℤ) (e : End) → IsNextChange ss t e → IsUntil (shows ss) t e
until_is ss t (At u) n = (is_below t u n.later, (λ same. n.changes (sym (shows_is ss u) ∙ (same ∙ shows_is ss t))), λ v le lt. shows_is ss v ∙ (n.same v le (below v u lt) ∙ sym (shows_is ss t)))
  where
    below : (v u : ℤ) → v <ℤ u → int_lt v u ≡ true
    below v u h = grind (arith, ints)
until_is ss t Endless n = λ v le. shows_is ss v ∙ (n.same v le refl ∙ sym (shows_is ss t))

pub canonical_is_unique : CanonicalIsUnique
canonical_is_unique a b c d h = canonical_unique a b (canonical_linked a c) (canonical_linked b d) (λ t. sym (shows_is a t) ∙ (h t ∙ shows_is b t))

pub not_flip : (x y : Bool) → (x ≡ true → y ≡ true) → not y ≡ true → not x ≡ true
not_flip false y h k = refl
not_flip true true h k = k
not_flip true false h k = absurd (false≢true (h refl))

pub not_true : (x : Bool) → not x ≡ true → x ≡ false
not_true false h = refl
not_true true h = sym h

pub not_false : (x : Bool) → not x ≡ false → x ≡ true
not_false true h = refl
not_false false h = sym h

-- the same, from a binary search
pub open_at : (ss : List Segment) (t : ℤ) (i : ℕ) → IsLinked ss → (IsPartitionedBy (λ (s : Segment). not (is_before t s.end)) ss → IsPartitionPoint (λ (s : Segment). not (is_before t s.end) ≡ true) (λ (s : Segment). not (is_before t s.end) ≡ false) ss i) → IsOpenAt ss t i
open_at ss t i c found =
    let point = found (λ j k d le lt up. not_flip _ _ (λ h. ends_in_order ss t j k d c le lt h) up) in
    record {
      ended = λ k d lt. not_true _ (point.0 k d (omega arith) lt);
      lasting = λ k d le lt. not_false _ (point.1 k d le lt);
    }

pub until_open : (ss : List Segment) (t : ℤ) → IsLinked ss → IsUntil (shows ss) t (change_at (open_in ss t) t)
until_open ss t c = subst (λ (e : End). IsUntil (shows ss) t e) (change_open ss t c) (until_is ss t (change_after ss t) (change_after_is ss t c))

-- what a look-up lends is the element, copied
pub item_copied : (ss : List Segment) (i : ℕ) (r : Option (Bor Segment)) → IsItemAt ss i r → option_copied r ≡ slice_get ss i
item_copied ss i None h = sym (slice_get_past ss i h.3)
item_copied ss i (Some x) h = ap (λ (s : Segment). Some s) (h.3.1 x.now) ∙ sym (slice_get-get_or ss i x.now h.3.0)
