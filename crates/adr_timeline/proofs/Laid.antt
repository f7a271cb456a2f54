-- Entries laid over what is shown.
use Rattle.std.proofs.Common.{◌≡◌, ℕ, ◌+◌, ◌<◌, ◌&&◌, ◌||◌, not, Bool, true, false, List, [], ◌∷◌, ◌++◌, map, length, drop, get_or, Option, Some, None, if◌then◌else◌, inl, inr, refl, sym, ◌∙◌, ap, arith, ℤ, int_le}
use Rattle.std.specs.Option.{option_map}
use Rattle.std.specs.Int.{int_min}
use Rattle.std.proofs.lemmas.Int.{ints}
use Rattle.std.proofs.lemmas.Bool.{false≢true, and_parts, cases_Bool}
use Rattle.std.proofs.lemmas.List.{append_assoc, drop_more}
use Rattle.adr_time.specs.Spans.{covers, is_before, later_end, spanned}
use Rattle.adr_time.specs.declared.span.End.{End}
use Rattle.adr_time.specs.declared.span.End.TheVariants.{At, Endless}
use Rattle.adr_time.specs.declared.span.Span.{Span}
use Rattle.adr_model.specs.declared.entry.Entry.{Entry}
use Rattle.adr_model.specs.declared.entry.Rank.{Rank}
use Rattle.adr_model.specs.declared.timeline.Winner.{Winner}
use Rattle.adr_model.specs.declared.timeline.Segment.{Segment}
use Rattle.adr_model.specs.Timeline.{shows, span_of, IsCanonical}
use Rattle.adr_timeline.specs.declared.step.RankStep.{RankStep}
use Rattle.adr_timeline.specs.Parts.{part, joined_all}
use Rattle.adr_timeline.specs.Chunks.{listed}
use Rattle.adr_timeline.specs.Overlay.{hull_with, hull, shown_entry, spans_of}
use Rattle.adr_timeline.specs.Windows.{any_covers, are_apart, is_followed_by}
use Rattle.adr_timeline.specs.Steps.{IsInOrder, is_run, starts_from, lesser, pieces, rank_at, rank_from, winner_of_rank}
use Rattle.adr_timeline.proofs.Canonical.{none_before, starts_end, after_endless}
use Rattle.adr_timeline.proofs.Pieces.{clip_made}
use Rattle.adr_timeline.proofs.Least.{rank_cons}
use Rattle.adr_timeline.proofs.Runs.{run_parts}
use Rattle.adr_timeline.proofs.Segments.{winner_in, EndsBy, IsApart, IsLinked}
use Rattle.adr_timeline.proofs.Stepped.{pieces_spread, pieces_show}
use Rattle.adr_timeline.proofs.Words.{shows_is, canonical_linked}

-- ---- what is shown, as entries

-- where the first segment covers, the rest shows nothing
rest_none : (s : Segment) (ss : List Segment) (t : ℤ) (e : End) → s.end ≡ e → is_before t e ≡ true → IsLinked (s ∷ ss) → winner_in ss t ≡ None
rest_none s ss t (At v) h b c = none_before ss v t c.2 (starts_end s ss v h c.1) (grind (arith, ints))
rest_none s ss t Endless h b c = after_endless s ss t h c.1

module _ (rank : Winner → Rank) where
  rank_first : (s : Segment) (ss : List Segment) (t : ℤ) (x : Bool) → covers (span_of s) t ≡ x → IsLinked (s ∷ ss) → lesser (if x then Some (rank s.winner) else None) (option_map rank (winner_in ss t)) ≡ option_map rank (if x then Some s.winner else winner_in ss t)
  rank_first s ss t true h c = rw (rest_none s ss t s.end refl (and_parts (int_le s.start t) (is_before t s.end) h).1 c)
  rank_first s ss t false h c = refl

  -- the rank of what is shown is the least of those entries
  pub rank_shown : (ss : List Segment) (t : ℤ) → IsLinked ss → rank_at (map (shown_entry rank) ss) t ≡ option_map rank (winner_in ss t)
  rank_shown [] t c = refl
  rank_shown (s ∷ ss) t c =
      rank_cons (shown_entry rank s) (map (shown_entry rank) ss) t
      ∙ (ap (lesser (if covers (span_of s) t then Some (rank s.winner) else None)) (rank_shown ss t c.2) ∙ rank_first s ss t (covers (span_of s) t) refl c)

  not_before : (e : End) (b : ℤ) → EndsBy e b → not (is_before b e) ≡ true
  not_before (At u) b h = grind (arith, ints)
  not_before Endless b h = absurd h

  starts_later : (s : Segment) (ss : List Segment) → IsApart s ss → starts_from s.end (map (shown_entry rank) ss) ≡ true
  starts_later s [] a = refl
  starts_later s (r ∷ rs) a = not_before s.end r.start a.0

  -- they come one after the other
  shown_run : (ss : List Segment) → IsLinked ss → is_run (map (shown_entry rank) ss) ≡ true
  shown_run [] c = refl
  shown_run (s ∷ ss) c = rw (c.0, starts_later s ss c.1) (shown_run ss c.2)

  map_length : (ss : List Segment) → length (map (shown_entry rank) ss) ≡ length ss
  map_length [] = refl
  map_length (s ∷ ss) = omega (arith, map_length ss)

  pub record AreShown (ss : List Segment) (entries : List Entry) : Type 0 where
    pub in_turn : is_run entries ≡ true
    pub count : length entries ≡ length ss
    pub ranks : (t : ℤ) → rank_at entries t ≡ option_map rank (shows ss t)

  -- the entries of what is shown have its ranks
  pub shown_ranked : (ss : List Segment) (none entries : List Entry) → IsCanonical ss → none ≡ [] → entries ≡ none ++ map (shown_entry rank) ss → AreShown ss entries
  shown_ranked ss none entries c n h =
      let l = canonical_linked ss c in
      rw (h, n) (record {
        in_turn = shown_run ss l;
        count = map_length ss;
        ranks = λ t. rank_shown ss t l ∙ ap (option_map rank) (sym (shows_is ss t));
      })

  -- the entries of a chunk more
  pub chunk_more : (entries new : List Entry) (chunk rest : List Segment) → new ≡ entries ++ map (shown_entry rank) chunk → new ++ map (shown_entry rank) rest ≡ entries ++ map (shown_entry rank) (chunk ++ rest)
  chunk_more entries new chunk rest h = rw (h, both chunk) (append_assoc entries (map (shown_entry rank) chunk) (map (shown_entry rank) rest))
    where
      both : (xs : List Segment) → map (shown_entry rank) (xs ++ rest) ≡ map (shown_entry rank) xs ++ map (shown_entry rank) rest
      both [] = refl
      both (x ∷ xs) = ap (λ (es : List Entry). shown_entry rank x ∷ es) (both xs)

  pub chunks_more : (cs : List (List Segment)) (i : ℕ) (chunk : List Segment) (entries new whole : List Entry) → i < length cs → chunk ≡ get_or cs i chunk → new ≡ entries ++ map (shown_entry rank) chunk → entries ++ map (shown_entry rank) (listed (drop i cs)) ≡ whole → new ++ map (shown_entry rank) (listed (drop (i + 1) cs)) ≡ whole
  chunks_more cs i chunk entries new whole lt is h so_far =
      let here : drop i cs ≡ chunk ∷ drop (i + 1) cs = drop_more cs i chunk lt ∙ ap (λ (c : List Segment). c ∷ drop (i + 1) cs) (sym is) in
      chunk_more entries new chunk (listed (drop (i + 1) cs)) h ∙ (rw here at so_far)

-- ---- the hull of entries

spanned_none : (a b : ℤ) (e f : End) (t : ℤ) → (int_le (int_min a b) t && is_before t (later_end e f)) ≡ false → ((int_le a t && is_before t e) ≡ false) × ((int_le b t && is_before t f) ≡ false)
spanned_none a b (At u) (At v) t h = (grind (arith, ints), grind (arith, ints))
spanned_none a b (At u) Endless t h = (grind (arith, ints), grind (arith, ints))
spanned_none a b Endless (At v) t h = (grind (arith, ints), grind (arith, ints))
spanned_none a b Endless Endless t h = (grind (arith, ints), grind (arith, ints))

rank_none : (e : Entry) (es : List Entry) (t : ℤ) → covers e.span t ≡ false → rank_at es t ≡ None → rank_at (e ∷ es) t ≡ None
rank_none e es t c r = rank_cons e es t ∙ (rw (c, r) refl)

some_is : (a b : Span) → Some a ≡ Some b → a ≡ b
some_is a b h = cc

neither : (a b : Bool) → (a || b) ≡ false → (a ≡ false) × (b ≡ false)
neither true b h = absurd (false≢true (sym h))
neither false b h = (refl, h)

-- where no span covers there is no rank
rank_uncovered : (es : List Entry) (t : ℤ) → any_covers (spans_of es) t ≡ false → rank_at es t ≡ None
rank_uncovered [] t h = refl
rank_uncovered (e ∷ es) t h = let parts = neither (covers e.span t) (any_covers (spans_of es) t) h in rank_none e es t parts.0 (rank_uncovered es t parts.1)

hull_with_covers : (es : List Entry) (s : Span) (t : ℤ) → covers (hull_with s es) t ≡ false → (covers s t ≡ false) × (any_covers (spans_of es) t ≡ false)
hull_with_covers [] s t h = (h, refl)
hull_with_covers (e ∷ es) s t h =
    let rest = hull_with_covers es (spanned s e.span) t h in
    let both = spanned_none s.start e.span.start s.end e.span.end t rest.0 in
    (both.0, rw (both.1, rest.1) refl)

-- the hull covers where an entry does
hull_covers : (es : List Entry) (w : Span) (t : ℤ) → hull es ≡ Some w → any_covers (spans_of es) t ≡ true → covers w t ≡ true
hull_covers [] w t h c = absurd (false≢true c)
hull_covers (e ∷ es) w t h c = elim (cases_Bool (covers w t)) [
  | inl here ↦ here
  | inr gone ↦
      let rest = hull_with_covers es e.span t (ap (λ (v : Span). covers v t) (some_is (hull_with e.span es) w h) ∙ gone) in
      let none : (covers e.span t || any_covers (spans_of es) t) ≡ false = rw (rest.0, rest.1) refl in
      absurd (false≢true (sym none ∙ c))
]

-- spans of entries in turn are apart
pub run_apart : (es : List Entry) → is_run es ≡ true → are_apart (spans_of es) ≡ true
run_apart [] h = refl
run_apart (e ∷ es) h =
    let parts = run_parts e es h in
    let next : is_followed_by e.span (spans_of es) ≡ true = followed e.span es parts.1 in
    rw (parts.0, next, run_apart es parts.2) refl
  where
    followed : (w : Span) (xs : List Entry) → starts_from w.end xs ≡ true → is_followed_by w (spans_of xs) ≡ true
    followed w [] k = refl
    followed w (x ∷ xs) k = k

-- ---- what is laid over

-- inside the window
pub inside_shows : (shown es : List Entry) (new : List Segment) (steps : List RankStep) (w : Span) → IsInOrder steps → ((t : ℤ) → rank_from None steps t ≡ lesser (rank_at shown t) (rank_at es t)) → new ≡ joined_all [] (part (Some w.start) w.end (pieces steps)) → (t : ℤ) → shows new t ≡ (if covers w t then option_map winner_of_rank (lesser (rank_at shown t) (rank_at es t)) else None)
inside_shows shown es new steps w o r n t =
    let made = clip_made (pieces steps) new w (pieces_spread steps o) n in
    made.shown t ∙ ap (λ (v : Option Winner). if covers w t then v else None) (pieces_show steps t o ∙ ap (option_map winner_of_rank) (r t))

-- what is laid over what is shown goes into it where the entries cover
pub run_shows : (shown es : List Entry) (w : Span) (windows : List Span) (old laid new : List Segment) → hull es ≡ Some w → ((t : ℤ) → any_covers windows t ≡ any_covers (spans_of es) t)
    → ((t : ℤ) → shows laid t ≡ (if covers w t then option_map winner_of_rank (lesser (rank_at shown t) (rank_at es t)) else None))
    → ((t : ℤ) → shows new t ≡ (if any_covers windows t then shows laid t else shows old t))
    → (t : ℤ) → shows new t ≡ (if any_covers (spans_of es) t then option_map winner_of_rank (lesser (rank_at shown t) (rank_at es t)) else shows old t)
run_shows shown es w windows old laid new h s l n t = by (any_covers (spans_of es) t) refl (rw (s t) at (n t))
  where
    by : (c : Bool) → any_covers (spans_of es) t ≡ c → shows new t ≡ (if c then shows laid t else shows old t)
        → shows new t ≡ (if c then option_map winner_of_rank (lesser (rank_at shown t) (rank_at es t)) else shows old t)
    by true c there = there ∙ (rw (hull_covers es w t h c) at (l t))
    by false c there = there

-- where there is no hull no entry covers
pub no_hull : (es : List Entry) (old new : List Segment) (shown : ℤ → Option Winner) → hull es ≡ None → new ≡ old → (t : ℤ) → shows new t ≡ (if any_covers (spans_of es) t then shown t else shows old t)
no_hull [] old new shown h same t = ap (λ (ss : List Segment). shows ss t) same
no_hull (e ∷ es) old new shown h same t = absurd (cc)
