-- Where timelines show an event, and which of its windows hold that.
use Rattle.std.proofs.Common.{◌≡◌, ◌⊎◌, inl, inr, ℕ, ◌+◌, ◌≤◌, ℤ, ◌≤ℤ◌, ◌<ℤ◌, int_le, ◌==◌, Bool, true, false, not, cond, if◌then◌else◌, ◌&&◌, ◌||◌, List, [], ◌∷◌, ◌++◌, map, filter, slice_get, Some, None, refl, ap, sym, subst, ◌∙◌, arith, append-nil}
use Rattle.std.proofs.lemmas.Int.{ints}
use Rattle.std.proofs.lemmas.Bool.{and_parts, both_ways, false≢true}
use Rattle.adr_time.specs.Spans.{covers, is_before}
use Rattle.adr_time.specs.declared.span.End.{End}
use Rattle.adr_time.specs.declared.span.End.TheVariants.{At, Endless}
use Rattle.adr_time.specs.declared.span.Span.{Span}
use Rattle.adr_model.specs.declared.entry.Entry.{Entry}
use Rattle.adr_model.specs.declared.timeline.Segment.{Segment}
use Rattle.adr_model.specs.Timeline.{shows, span_of, IsCanonical}
use Rattle.adr_timeline.specs.Build.{most_compared}
use Rattle.adr_timeline.specs.Chunks.{listed}
use Rattle.adr_timeline.specs.Overlay.{spans_of}
use Rattle.adr_timeline.specs.Steps.{is_run}
use Rattle.adr_timeline.specs.Windows.{any_covers}
use Rattle.adr_timeline.proofs.Runs.{run_parts}
use Rattle.adr_timeline.proofs.Segments.{winner_in, EndsBy, IsApart, IsLinked}
use Rattle.adr_timeline.proofs.Words.{canonical_linked, shows_is}
use Rattle.adr_lines.specs.Grouped.{any_covers_at}
use Rattle.adr_lines.specs.Right.{written_in}
use Rattle.adr_group.specs.Governed.{is_of, own_spans, AreFrom, AreInOrder}
use Rattle.adr_group.specs.Repair.{most_inside}
use Rattle.adr_group.proofs.Seen.{entries_append, inside_append}

-- ---- where an event governs

module _ (n : ℕ) where
  abbrev own : Segment → Bool
  own s = s.winner.written == n

  -- where the event governs the spans cover
  own_shown : (ss : List Segment) (t : ℤ) → is_of n (winner_in ss t) ≡ true → any_covers (own_spans n ss) t ≡ true
  own_shown [] t h = absurd (false≢true h)
  own_shown (s ∷ ss) t h = by (covers (span_of s) t) refl h (own_shown ss t)
    where
      more : (b : Bool) → any_covers (own_spans n ss) t ≡ true → any_covers (map span_of (cond b (s ∷ filter own ss) (filter own ss))) t ≡ true
      more true k = either (covers (span_of s) t)
        where
          either : (a : Bool) → (a || any_covers (own_spans n ss) t) ≡ true
          either true = refl
          either false = k
      more false k = k

      by : (c : Bool) → covers (span_of s) t ≡ c → is_of n (if c then Some s.winner else winner_in ss t) ≡ true → (is_of n (winner_in ss t) ≡ true → any_covers (own_spans n ss) t ≡ true)
          → any_covers (map span_of (cond (own s) (s ∷ filter own ss) (filter own ss))) t ≡ true
      by true c k later = ap (λ (b : Bool). any_covers (map span_of (cond b (s ∷ filter own ss) (filter own ss))) t) k ∙ ap (λ (b : Bool). b || any_covers (own_spans n ss) t) c
      by false c k later = more (own s) (later k)

  pub own_covered : (line : List Segment) (t : ℤ) → is_of n (shows line t) ≡ true → any_covers (own_spans n line) t ≡ true
  own_covered line t h = own_shown line t (ap (is_of n) (sym (shows_is line t)) ∙ h)

-- ---- spans in order

from_order : (v : ℤ) (ss : List Span) → AreFrom v ss → AreInOrder ss
from_order v [] f = tt
from_order v (s ∷ ss) f = f.1

same_start : (a : ℤ) → a ≤ℤ a
same_start a = omega (arith, ints)

starts_after : (a : ℤ) (e : End) (b : ℤ) → is_before a e ≡ true → EndsBy e b → a ≤ℤ b
starts_after a (At u) b h k = grind (arith, ints)
starts_after a Endless b h k = absurd k

-- the first segment starts at the instant or later
abbrev StartsAt : ℤ → List Segment → Type 0
StartsAt v [] = Unit {0}
StartsAt v (s ∷ ss) = v ≤ℤ s.start

starts_rest : (v : ℤ) (s : Segment) (ss : List Segment) → is_before s.start s.end ≡ true → IsApart s ss → v ≤ℤ s.start → StartsAt v ss
starts_rest v s [] lasts a h = tt
starts_rest v s (r ∷ rs) lasts a h = let b : s.start ≤ℤ r.start = starts_after s.start s.end r.start lasts a.0 in omega (arith, ints)

module _ (n : ℕ) where
  own_from : (v : ℤ) (ss : List Segment) → IsLinked ss → StartsAt v ss → AreFrom v (own_spans n ss)
  own_from v [] l h = tt
  own_from v (s ∷ ss) l h =
      by (own n s) (own_from s.start ss l.2 (starts_rest s.start s ss l.0 l.1 (same_start s.start))) (own_from v ss l.2 (starts_rest v s ss l.0 l.1 h))
    where
      by : (b : Bool) → AreFrom s.start (own_spans n ss) → AreFrom v (own_spans n ss) → AreFrom v (map span_of (cond b (s ∷ filter (own n) ss) (filter (own n) ss)))
      by true here later = (h, here)
      by false here later = later

  pub own_in_order : (line : List Segment) → IsCanonical line → AreInOrder (own_spans n line)
  own_in_order [] c = tt
  own_in_order (s ∷ ss) c = from_order s.start (own_spans n (s ∷ ss)) (own_from s.start (s ∷ ss) (canonical_linked (s ∷ ss) c) (same_start s.start))

  -- none is left to be taken
  pub all_taken : (rest : List (List Segment)) (spans total : List Span) → rest ≡ [] → spans ++ own_spans n (listed rest) ≡ total → spans ≡ total
  all_taken rest spans total none h = sym (append-nil spans) ∙ ap (λ (cs : List (List Segment)). spans ++ own_spans n (listed cs)) (sym none) ∙ h

-- before the first start they cover nothing
none_early : (v : ℤ) (ss : List Span) (t : ℤ) → AreFrom v ss → t <ℤ v → any_covers ss t ≡ false
none_early v [] t f h = refl
none_early v (s ∷ ss) t f h =
    let a : v ≤ℤ s.start = f.0 in
    let early : t <ℤ s.start = omega (arith, ints) in
    rw (not_yet s.start t (is_before t s.end) early, none_early s.start ss t f.1 early) refl
  where
    not_yet : (a t : ℤ) (x : Bool) → t <ℤ a → (int_le a t && x) ≡ false
    not_yet a t true h = grind (arith, ints)
    not_yet a t false h = grind (arith, ints)

covers_parts : (a : ℤ) (e : End) (t : ℤ) → (int_le a t && is_before t e) ≡ true → (a ≤ℤ t) × (is_before t e ≡ true)
covers_parts a e t h = let parts = and_parts (int_le a t) (is_before t e) h in (grind (arith, ints), parts.1)

before_start : (b : ℤ) (e : End) (t : ℤ) → is_before b e ≡ false → is_before t e ≡ true → t <ℤ b
before_start b (At u) t h k = grind (arith, ints)
before_start b Endless t h k = absurd (false≢true (sym h))

-- where the first of them starts when a window has ended, none covers any of it
pub none_starts : (spans : List Span) (first : Span) (w : Entry) (t : ℤ) → Some first ≡ slice_get spans 0 → AreInOrder spans → is_before first.start w.span.end ≡ false → covers w.span t ≡ true
    → any_covers spans t ≡ false
none_starts [] first w t is order h c = absurd (cc)
none_starts (s ∷ ss) first w t is order h c =
    let same : first ≡ s = cc in
    let starts : is_before s.start w.span.end ≡ false = ap (λ (x : Span). is_before x.start w.span.end) (sym same) ∙ h in
    none_early s.start (s ∷ ss) t (same_start s.start, order) (before_start s.start w.span.end t starts (covers_parts w.span.start w.span.end t c).1)

-- ---- windows in turn

gone_through : (a : ℤ) (e : End) (b : ℤ) → is_before a e ≡ true → not (is_before b e) ≡ true → a ≤ℤ b
gone_through a (At u) b h k = grind (arith, ints)
gone_through a Endless b h k = absurd (false≢true k)

-- they cover nothing before the first start
run_starts : (e : Entry) (es : List Entry) (t : ℤ) → is_run (e ∷ es) ≡ true → any_covers_at (e ∷ es) t ≡ true → e.span.start ≤ℤ t
run_starts e [] t run c = by (covers e.span t) refl c
  where
    by : (b : Bool) → covers e.span t ≡ b → (b || false) ≡ true → e.span.start ≤ℤ t
    by true h k = (covers_parts e.span.start e.span.end t h).0
    by false h k = absurd (false≢true k)
run_starts e (f ∷ fs) t run c = by (covers e.span t) refl c (run_starts f fs t)
  where
    by : (b : Bool) → covers e.span t ≡ b → (b || any_covers_at (f ∷ fs) t) ≡ true → (is_run (f ∷ fs) ≡ true → any_covers_at (f ∷ fs) t ≡ true → f.span.start ≤ℤ t) → e.span.start ≤ℤ t
    by true h k later = (covers_parts e.span.start e.span.end t h).0
    by false h k later =
        let parts = run_parts e (f ∷ fs) run in
        let a : f.span.start ≤ℤ t = later parts.2 k in
        let b : e.span.start ≤ℤ f.span.start = gone_through e.span.start e.span.end f.span.start parts.0 parts.1 in
        omega (arith, ints)

-- what is kept, and what is left of the windows and the spans, hold what the spans cover inside the windows
pub record AreKept (windows rest : List Entry) (spans left : List Span) (kept : List Entry) : Type 0 where
  pub run : is_run rest ≡ true
  pub order : AreInOrder left
  pub holds : (t : ℤ) → any_covers_at windows t ≡ true → any_covers spans t ≡ true → (any_covers_at kept t ≡ true) ⊎ ((any_covers_at rest t ≡ true) × (any_covers left t ≡ true))
  pub cost : (ws : List ℕ) (es : List Entry) → most_inside ws es kept + most_inside ws es rest ≤ most_inside ws es windows

module _ (windows rest more : List Entry) (w : Entry) (spans left after : List Span) (kept : List Entry) (is : rest ≡ w ∷ more) (so_far : AreKept windows rest spans left kept)
    (order : AreInOrder after) (same : (t : ℤ) → w.span.start ≤ℤ t → any_covers after t ≡ any_covers left t) where
  run : is_run (w ∷ more) ≡ true
  run = ap is_run (sym is) ∙ so_far.run

  still : (t : ℤ) → any_covers_at rest t ≡ true → any_covers left t ≡ true → (any_covers_at (w ∷ more) t ≡ true) × (any_covers after t ≡ true)
  still t h k = let c : any_covers_at (w ∷ more) t ≡ true = ap (λ (es : List Entry). any_covers_at es t) (sym is) ∙ h in (c, same t (run_starts w more t run c) ∙ k)

  cost_of : (ws : List ℕ) (es : List Entry) → most_inside ws es rest ≡ most_compared (written_in ws es) w.span + most_inside ws es more
  cost_of ws es = ap (λ (xs : List Entry). most_inside ws es xs) is

  pub window_kept : (new : List Entry) → new ≡ kept ++ w ∷ [] → AreKept windows more spans after new
  window_kept new made = record {
    run = (run_parts w more run).2;
    order = order;
    holds = λ t h k. by t (so_far.holds t h k);
    cost = λ ws es.
        (let grown : most_inside ws es new ≡ most_inside ws es kept + most_inside ws es (w ∷ []) = ap (λ (xs : List Entry). most_inside ws es xs) made ∙ inside_append ws es kept (w ∷ []) in
        omega (arith, grown, cost_of ws es, so_far.cost ws es));
  }
    where
      all : (t : ℤ) → any_covers_at new t ≡ (any_covers_at kept t || (covers w.span t || false))
      all t = ap (λ (xs : List Entry). any_covers_at xs t) made ∙ entries_append kept (w ∷ []) t

      either : (t : ℤ) (b : Bool) → covers w.span t ≡ b → (b || any_covers_at more t) ≡ true → any_covers after t ≡ true → (any_covers_at new t ≡ true) ⊎ ((any_covers_at more t ≡ true) × (any_covers after t ≡ true))
      either t true c h k = inl (all t ∙ (rw c (last (any_covers_at kept t))))
        where
          last : (a : Bool) → (a || true) ≡ true
          last true = refl
          last false = refl
      either t false c h k = inr (h, k)

      by : (t : ℤ) → (any_covers_at kept t ≡ true) ⊎ ((any_covers_at rest t ≡ true) × (any_covers left t ≡ true)) → (any_covers_at new t ≡ true) ⊎ ((any_covers_at more t ≡ true) × (any_covers after t ≡ true))
      by t (inl h) = inl (all t ∙ (rw h refl))
      by t (inr p) = let s = still t p.0 p.1 in either t (covers w.span t) refl s.0 s.1

  pub window_passed : ((t : ℤ) → covers w.span t ≡ true → any_covers after t ≡ false) → AreKept windows more spans after kept
  window_passed apart = record {
    run = (run_parts w more run).2;
    order = order;
    holds = λ t h k. by t (so_far.holds t h k);
    cost = λ ws es. omega (arith, cost_of ws es, so_far.cost ws es);
  }
    where
      either : (t : ℤ) (b : Bool) → covers w.span t ≡ b → (b || any_covers_at more t) ≡ true → any_covers after t ≡ true → (any_covers_at kept t ≡ true) ⊎ ((any_covers_at more t ≡ true) × (any_covers after t ≡ true))
      either t true c h k = absurd (both_ways (any_covers after t) (apart t c) k)
      either t false c h k = inr (h, k)

      by : (t : ℤ) → (any_covers_at kept t ≡ true) ⊎ ((any_covers_at rest t ≡ true) × (any_covers left t ≡ true)) → (any_covers_at kept t ≡ true) ⊎ ((any_covers_at more t ≡ true) × (any_covers after t ≡ true))
      by t (inl h) = inl h
      by t (inr p) = let s = still t p.0 p.1 in either t (covers w.span t) refl s.0 s.1

pub kept_all : (windows rest : List Entry) (spans left : List Span) (kept : List Entry) → rest ≡ [] → AreKept windows rest spans left kept
    → (t : ℤ) → any_covers_at windows t ≡ true → any_covers spans t ≡ true → any_covers_at kept t ≡ true
kept_all windows rest spans left kept none so_far t h k = by (so_far.holds t h k)
  where
    by : (any_covers_at kept t ≡ true) ⊎ ((any_covers_at rest t ≡ true) × (any_covers left t ≡ true)) → any_covers_at kept t ≡ true
    by (inl c) = c
    by (inr p) = absurd (false≢true (subst (λ (es : List Entry). any_covers_at es t ≡ true) none p.0))

-- ---- parts of windows

-- what a part that was added covers, the parts cover
pub part_added : (kept new : List Entry) (p : Entry) (t : ℤ) → new ≡ kept ++ p ∷ [] → (any_covers_at kept t ≡ true) ⊎ (covers p.span t ≡ true) → any_covers_at new t ≡ true
part_added kept new p t made h = ap (λ (xs : List Entry). any_covers_at xs t) made ∙ (entries_append kept (p ∷ []) t ∙ by (any_covers_at kept t) (covers p.span t) refl refl h)
  where
    by : (a b : Bool) → any_covers_at kept t ≡ a → covers p.span t ≡ b → (any_covers_at kept t ≡ true) ⊎ (covers p.span t ≡ true) → (a || (b || false)) ≡ true
    by true b i j h = refl
    by false true i j h = refl
    by false false i j (inl k) = absurd (both_ways (any_covers_at kept t) i k)
    by false false i j (inr k) = absurd (both_ways (covers p.span t) j k)

-- the parts, and what is left of the spans, hold what the spans cover inside the window
pub record ArePartsOf (window : Span) (spans rest : List Span) (old parts : List Entry) : Type 0 where
  pub order : AreInOrder rest
  pub kept : (t : ℤ) → any_covers_at old t ≡ true → any_covers_at parts t ≡ true
  pub holds : (t : ℤ) → covers window t ≡ true → any_covers spans t ≡ true → (any_covers_at parts t ≡ true) ⊎ (any_covers rest t ≡ true)

in_order_rest : (s : Span) (ss : List Span) → AreInOrder (s ∷ ss) → AreInOrder ss
in_order_rest s ss order = from_order s.start ss order

module _ (window : Span) (spans rest more : List Span) (s : Span) (old parts new : List Entry) (p : Entry) (is : rest ≡ s ∷ more) (so_far : ArePartsOf window spans rest old parts) where
  -- a part is added
  pub part_taken : new ≡ parts ++ p ∷ [] → ((t : ℤ) → covers window t ≡ true → covers s t ≡ true → covers p.span t ≡ true) → ArePartsOf window spans more old new
  part_taken made both = record {
    order = in_order_rest s more (subst AreInOrder is so_far.order);
    kept = λ t h. part_added parts new p t made (inl (so_far.kept t h));
    holds = λ t h k. by t h (so_far.holds t h k);
  }
    where
      either : (t : ℤ) (b : Bool) → covers s t ≡ b → covers window t ≡ true → (b || any_covers more t) ≡ true → (any_covers_at new t ≡ true) ⊎ (any_covers more t ≡ true)
      either t true c h k = inl (part_added parts new p t made (inr (both t h c)))
      either t false c h k = inr k

      by : (t : ℤ) → covers window t ≡ true → (any_covers_at parts t ≡ true) ⊎ (any_covers rest t ≡ true) → (any_covers_at new t ≡ true) ⊎ (any_covers more t ≡ true)
      by t h (inl k) = inl (part_added parts new p t made (inl k))
      by t h (inr k) = either t (covers s t) refl h (ap (λ (ss : List Span). any_covers ss t) (sym is) ∙ k)

-- the spans that are left start when the window has ended, or none is left
pub parts_whole : (window : Span) (spans rest : List Span) (old parts : List Entry) → ArePartsOf window spans rest old parts
    → ((t : ℤ) → covers window t ≡ true → any_covers rest t ≡ false)
    → (t : ℤ) → covers window t ≡ true → any_covers spans t ≡ true → any_covers_at parts t ≡ true
parts_whole window spans rest old parts so_far none t h k = by (so_far.holds t h k)
  where
    by : (any_covers_at parts t ≡ true) ⊎ (any_covers rest t ≡ true) → any_covers_at parts t ≡ true
    by (inl c) = c
    by (inr c) = absurd (both_ways (any_covers rest t) (none t h) c)

-- the parts, and what is left of the windows and the spans, hold what the spans cover inside the windows
pub record HaveParts (windows rest : List Entry) (spans left : List Span) (parts : List Entry) : Type 0 where
  pub run : is_run rest ≡ true
  pub order : AreInOrder left
  pub holds : (t : ℤ) → any_covers_at windows t ≡ true → any_covers spans t ≡ true → (any_covers_at parts t ≡ true) ⊎ ((any_covers_at rest t ≡ true) × (any_covers left t ≡ true))

-- the parts of a window are added
pub window_parted : (windows rest more : List Entry) (w : Entry) (spans left after : List Span) (parts new : List Entry) → rest ≡ w ∷ more → HaveParts windows rest spans left parts
    → AreInOrder after → ((t : ℤ) → w.span.start ≤ℤ t → any_covers after t ≡ any_covers left t)
    → ((t : ℤ) → any_covers_at parts t ≡ true → any_covers_at new t ≡ true)
    → ((t : ℤ) → covers w.span t ≡ true → any_covers after t ≡ true → any_covers_at new t ≡ true)
    → HaveParts windows more spans after new
window_parted windows rest more w spans left after parts new is so_far order same kept holds = record {
  run = (run_parts w more run).2;
  order = order;
  holds = λ t h k. by t (so_far.holds t h k);
}
  where
    run : is_run (w ∷ more) ≡ true
    run = ap is_run (sym is) ∙ so_far.run

    either : (t : ℤ) (b : Bool) → covers w.span t ≡ b → (b || any_covers_at more t) ≡ true → any_covers after t ≡ true → (any_covers_at new t ≡ true) ⊎ ((any_covers_at more t ≡ true) × (any_covers after t ≡ true))
    either t true c h k = inl (holds t c k)
    either t false c h k = inr (h, k)

    by : (t : ℤ) → (any_covers_at parts t ≡ true) ⊎ ((any_covers_at rest t ≡ true) × (any_covers left t ≡ true)) → (any_covers_at new t ≡ true) ⊎ ((any_covers_at more t ≡ true) × (any_covers after t ≡ true))
    by t (inl h) = inl (kept t h)
    by t (inr p) =
        let c : any_covers_at (w ∷ more) t ≡ true = ap (λ (es : List Entry). any_covers_at es t) (sym is) ∙ p.0 in
        either t (covers w.span t) refl c (same t (run_starts w more t run c) ∙ p.1)

pub all_parted : (windows rest : List Entry) (spans left : List Span) (parts : List Entry) → rest ≡ [] → HaveParts windows rest spans left parts
    → (t : ℤ) → any_covers_at windows t ≡ true → any_covers spans t ≡ true → any_covers_at parts t ≡ true
all_parted windows rest spans left parts none so_far t h k = by (so_far.holds t h k)
  where
    by : (any_covers_at parts t ≡ true) ⊎ ((any_covers_at rest t ≡ true) × (any_covers left t ≡ true)) → any_covers_at parts t ≡ true
    by (inl c) = c
    by (inr p) = absurd (false≢true (subst (λ (es : List Entry). any_covers_at es t ≡ true) none p.0))

-- ---- the windows in which a line shows the event

pub spans_cover : (es : List Entry) (t : ℤ) → any_covers (spans_of es) t ≡ any_covers_at es t
spans_cover [] t = refl
spans_cover (e ∷ es) t = ap (λ (b : Bool). covers e.span t || b) (spans_cover es t)

-- outside the kept windows the line doesn't show the event
pub governed_kept : (n : ℕ) (line met : List Segment) (windows run kept : List Entry) (spans : List Span) → run ≡ windows
    → ((t : ℤ) → shows met t ≡ (if any_covers (spans_of run) t then shows line t else None))
    → spans ≡ own_spans n met
    → ((t : ℤ) → any_covers_at windows t ≡ true → any_covers spans t ≡ true → any_covers_at kept t ≡ true)
    → (t : ℤ) → any_covers_at windows t ≡ true → any_covers_at kept t ≡ false → is_of n (shows line t) ≡ false
governed_kept n line met windows run kept spans same inside is holds t c out = by (is_of n (shows line t)) refl
  where
    seen : shows met t ≡ shows line t
    seen = inside t ∙ ap (λ (b : Bool). if b then shows line t else None) (spans_cover run t ∙ ap (λ (es : List Entry). any_covers_at es t) same ∙ c)

    by : (b : Bool) → is_of n (shows line t) ≡ b → b ≡ false
    by true h =
        let covered : any_covers spans t ≡ true = ap (λ (ss : List Span). any_covers ss t) is ∙ own_covered n met t (ap (is_of n) seen ∙ h) in
        absurd (both_ways (any_covers_at kept t) out (holds t c covered))
    by false h = refl
