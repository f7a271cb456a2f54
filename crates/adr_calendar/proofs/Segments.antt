-- The segments that `list` tells are a timeline of what governs.
use Rattle.std.proofs.Common.{◌≡◌, ◌≢◌, ℕ, zero, suc, ℤ, pos, ◌-ℤ◌, ◌≤ℤ◌, ◌<ℤ◌, Bool, true, false, not, ◌&&◌, ◌||◌, cond, List, [], ◌∷◌, ◌++◌, Option, Some, None, IsTrue, All, find, is_some, refl, sym, ap, ◌∙◌, arith}
use Rattle.std.specs.Prelude.{int_le, int_lt, flat_map, filter_map, ⊤}
use Rattle.std.specs.List.{cons_option, list_any}
use Rattle.std.specs.Option.{option_and_then, option_map, option_map_or}
use Rattle.std.specs.Ordering.{int_eq}
use Rattle.std.proofs.lemmas.Int.{ints}
use Rattle.std.proofs.lemmas.Bool.{and_parts, false≢true}
use Rattle.adr_value.specs.declared.payload.PayloadType.{PayloadType}
use Rattle.adr_time.specs.Spans.{covers, is_before}
use Rattle.adr_time.specs.declared.span.End.{End}
use Rattle.adr_time.specs.declared.span.End.TheVariants.{At, Endless}
use Rattle.adr_model.specs.declared.entry.Tie.{Tie}
use Rattle.adr_model.specs.declared.timeline.Segment.{Segment}
use Rattle.adr_model.specs.declared.timeline.Winner.{Winner}
use Rattle.adr_model.specs.Answer.{IsUntil, same_winner, shown_of, until}
use Rattle.adr_model.specs.Book.{Book}
use Rattle.adr_model.specs.Governor.{governs}
use Rattle.adr_model.specs.Laws.{IsAscending}
use Rattle.adr_model.specs.Queries.{beginnings, begins, end_within, in_lines, segment_line, segment_text}
use Rattle.adr_model.specs.Timeline.{shows, span_of, AllFollow, CanonicalIsUnique, Follows, IsCanonical}
use Rattle.adr_model.proofs.AnswerLaws.{same_from_winner, until_is_the_next_change}
use Rattle.adr_model.proofs.QueryLaws.{segments_are_apart, segments_are_in_order, segments_begin_at_changes, segments_cover_all, segments_show_one}
use Rattle.adr_calendar.specs.Segments.{governs_within, line_of_segment, segment_from, segments_within, IsCalendar, ListsTellTimelines}

-- ---- a row of instants, each of which begins a segment

module _ (governor : ℤ → Option Winner) (end : ℤ → ℤ) where
  abbrev segment : ℤ → Option Segment
  segment u = option_map (λ w. record { start = u; end = At (end u); winner = w }) (governor u)

  -- one winner governs from the instant to its end
  record IsBeginning (u : ℤ) : Type 0 where
    governed : is_some (governor u) ≡ true
    lasts : u <ℤ end u
    one : (v : ℤ) → u ≤ℤ v → v <ℤ end u → governor v ≡ governor u

  -- the next instant begins later, with another winner where it begins at the end
  abbrev Goes : ℤ → List ℤ → Type 0
  Goes u [] = ⊤
  Goes u (v ∷ vs) = (end u ≤ℤ v) × (end u ≡ v → governor u ≢ governor v)

  abbrev IsRow : List ℤ → Type 0
  IsRow [] = ⊤
  IsRow (u ∷ us) = IsBeginning u × Goes u us × IsRow us

  follows : (u v : ℤ) (w x : Winner) → governor u ≡ Some w → governor v ≡ Some x → end u ≤ℤ v → (end u ≡ v → governor u ≢ governor v)
      → Follows (record { start = u; end = At (end u); winner = w }) (record { start = v; end = At (end v); winner = x })
  follows u v w x g h le apart = (end u, refl, le, λ touching same. apart touching (g ∙ (ap Some same ∙ sym h)))

  below : (a b : ℤ) → a <ℤ b → int_lt a b ≡ true
  below a b h = grind (arith, ints)

  follow_row : (u : ℤ) (w : Winner) (us : List ℤ) → governor u ≡ Some w → Goes u us → IsRow us
      → AllFollow (record { start = u; end = At (end u); winner = w }) (filter_map segment us)
  follow_row u w [] g goes row = tt
  follow_row u w (v ∷ vs) g goes row = by (governor v) refl (λ x h. follow_row v x vs h row.1 row.2)
    where
      by : (o : Option Winner) → governor v ≡ o
          → ((x : Winner) → governor v ≡ Some x → AllFollow (record { start = v; end = At (end v); winner = x }) (filter_map segment vs))
          → AllFollow (record { start = u; end = At (end u); winner = w })
          (cons_option (option_map (λ x. record { start = v; end = At (end v); winner = x }) o) (filter_map segment vs))
      by None h rest = absurd (false≢true (ap is_some (sym h) ∙ row.0.governed))
      by (Some x) h rest = (follows u v w x g h goes.0 goes.1, rest x h)

  all_cons : (s : Segment) (ss : List Segment) → IsTrue (is_before s.start s.end) → All (λ x. IsTrue (is_before x.start x.end)) ss
      → All (λ x. IsTrue (is_before x.start x.end)) (s ∷ ss)
  all_cons s ss p a zero d lt = p
  all_cons s ss p a (suc k) d lt = a k d (omega arith)

  none_empty : (us : List ℤ) → IsRow us → All (λ x. IsTrue (is_before x.start x.end)) (filter_map segment us)
  none_empty [] row = λ k d lt. absurd (omega arith)
  none_empty (u ∷ us) row = by (governor u) refl (none_empty us row.2)
    where
      by : (o : Option Winner) → governor u ≡ o → All (λ x. IsTrue (is_before x.start x.end)) (filter_map segment us)
          → All (λ x. IsTrue (is_before x.start x.end)) (cons_option (option_map (λ x. record { start = u; end = At (end u); winner = x }) o) (filter_map segment us))
      by None h rest = rest
      by (Some x) h rest = all_cons (record { start = u; end = At (end u); winner = x }) (filter_map segment us) (below u (end u) row.0.lasts) rest

  canonical : (us : List ℤ) → IsRow us → IsCanonical (filter_map segment us)
  canonical [] row = tt
  canonical (u ∷ us) row = by (governor u) refl
    where
      by : (o : Option Winner) → governor u ≡ o
          → IsCanonical (cons_option (option_map (λ x. record { start = u; end = At (end u); winner = x }) o) (filter_map segment us))
      by None h = absurd (false≢true (ap is_some (sym h) ∙ row.0.governed))
      by (Some x) h =
          let s : Segment = record { start = u; end = At (end u); winner = x } in
          (all_cons s (filter_map segment us) (below u (end u) row.0.lasts) (none_empty us row.2), follow_row u x us h row.1 row.2)

  -- the instant lies on the segment that begins at u
  abbrev on_segment : ℤ → ℤ → Bool
  on_segment t u = int_le u t && int_lt t (end u)

  on_one : (u t : ℤ) → IsBeginning u → on_segment t u ≡ true → governor t ≡ governor u
  on_one u t b h = let (p, q) = and_parts (int_le u t) (int_lt t (end u)) h in b.one t (at_least u t p) (under t (end u) q)
    where
      at_least : (a c : ℤ) → int_le a c ≡ true → a ≤ℤ c
      at_least a c k = grind (arith, ints)

      under : (a c : ℤ) → int_lt a c ≡ true → a <ℤ c
      under a c k = grind (arith, ints)

  shown_by_row : (us : List ℤ) (t : ℤ) → IsRow us → shows (filter_map segment us) t ≡ cond (list_any (on_segment t) us) (governor t) None
  shown_by_row [] t row = refl
  shown_by_row (u ∷ us) t row = by (governor u) (on_segment t u) refl refl (shown_by_row us t row.2)
    where
      by : (o : Option Winner) (b : Bool) → governor u ≡ o → on_segment t u ≡ b
          → shows (filter_map segment us) t ≡ cond (list_any (on_segment t) us) (governor t) None
          → shows (cons_option (option_map (λ x. record { start = u; end = At (end u); winner = x }) o) (filter_map segment us)) t
          ≡ cond (b || list_any (on_segment t) us) (governor t) None
      by None b h c rest = absurd (false≢true (ap is_some (sym h) ∙ row.0.governed))
      by (Some x) true h c rest =
          ap (λ d. option_map (λ (s : Segment). s.winner) (cond d (Some (record { start = u; end = At (end u); winner = x })) (find (λ (s : Segment). covers (span_of s) t) (filter_map segment us)))) c
          ∙ sym (on_one u t row.0 c ∙ h)
      by (Some x) false h c rest =
          ap (λ d. option_map (λ (s : Segment). s.winner) (cond d (Some (record { start = u; end = At (end u); winner = x })) (find (λ (s : Segment). covers (span_of s) t) (filter_map segment us)))) c
          ∙ rest

  -- a list of instants in order is a row where each begins a segment and any two stand apart
  itself : (u : ℤ) (us : List ℤ) → (int_eq u u || list_any (int_eq u) us) ≡ true
  itself u us = grind (arith, ints)

  among : (b c : Bool) → c ≡ true → (b || c) ≡ true
  among true c h = refl
  among false c h = h

  row_of : (us : List ℤ) → IsAscending us
      → ((u : ℤ) → list_any (int_eq u) us ≡ true → IsBeginning u)
      → ((u v : ℤ) → list_any (int_eq u) us ≡ true → list_any (int_eq v) us ≡ true → u <ℤ v → (end u ≤ℤ v) × (end u ≡ v → governor u ≢ governor v))
      → IsRow us
  row_of [] order each apart = tt
  row_of (u ∷ us) order each apart = (
    each u (itself u us),
    goes us order (λ v less m. apart u v (itself u us) (among (int_eq v u) (list_any (int_eq v) us) m) less),
    row_of us order.1
        (λ v m. each v (among (int_eq v u) (list_any (int_eq v) us) m))
        (λ v w m n. apart v w (among (int_eq v u) (list_any (int_eq v) us) m) (among (int_eq w u) (list_any (int_eq w) us) n)),
  )
    where
      goes : (vs : List ℤ) → IsAscending (u ∷ vs)
          → ((v : ℤ) → u <ℤ v → list_any (int_eq v) vs ≡ true → (end u ≤ℤ v) × (end u ≡ v → governor u ≢ governor v))
          → Goes u vs
      goes [] o next = tt
      goes (v ∷ vs) o next = next v o.0.0 (itself v vs)

-- ---- the beginnings of a window

module _ (tie : Tie) (book : Book) (id : List ℕ) (kind : PayloadType) (from to : ℤ) where
  abbrev governor_at : ℤ → Option Winner
  governor_at u = governs tie book id kind u

  abbrev end_at : ℤ → ℤ
  end_at u = end_within to (until tie book id kind u)

  -- u is one of the beginnings
  abbrev IsFound : ℤ → Type 0
  IsFound u = list_any (int_eq u) (beginnings tie book id kind from to) ≡ true

  passes : (u : ℤ) → IsFound u → (int_le from u && (int_lt u to && begins tie book id kind from u)) ≡ true
  passes u m = sym (segments_begin_at_changes tie book id kind from to u) ∙ m

  is_least : (a b : ℤ) → int_le a b ≡ true → a ≤ℤ b
  is_least a b h = grind (arith, ints)

  is_less : (a b : ℤ) → int_lt a b ≡ true → a <ℤ b
  is_less a b h = grind (arith, ints)

  later_end : (u : ℤ) (e : End) → IsUntil (λ v. governs tie book id kind v) u e → u <ℤ to → u <ℤ end_within to e
  later_end u (At v) h less = by u v to h.0 less (int_lt v to)
    where
      by : (a b c : ℤ) → a <ℤ b → a <ℤ c → (d : Bool) → a <ℤ cond d b c
      by a b c h k true = h
      by a b c h k false = k
  later_end u Endless h less = less

  inside : (u : ℤ) → IsFound u → (from ≤ℤ u) × (u <ℤ to) × (is_some (governor_at u) ≡ true)
      × ((int_eq u from || not (same_winner (governor_at (u -ℤ pos 1)) (governor_at u))) ≡ true)
  inside u m =
      let (p, q) = and_parts (int_le from u) (int_lt u to && begins tie book id kind from u) (passes u m) in
      let (r, s) = and_parts (int_lt u to) (begins tie book id kind from u) q in
      let (g, h) = and_parts (is_some (governor_at u)) (int_eq u from || not (same_winner (governor_at (u -ℤ pos 1)) (governor_at u))) s in
      (is_least from u p, is_less u to r, g, h)

  beginning : (u : ℤ) → IsFound u → IsBeginning governor_at end_at u
  beginning u m =
      let (low, high, some, first) = inside u m in
      record {
        governed = some;
        lasts = later_end u (until tie book id kind u) (until_is_the_next_change tie book id kind u) high;
        one = λ v le lt. segments_show_one tie book id kind to u v le lt;
      }

  changed : (a b : Bool) → a ≡ false → (a || not b) ≡ true → b ≡ false
  changed true b h k = absurd (false≢true (sym h))
  changed false true h k = absurd (false≢true k)
  changed false false h k = refl

  apart : (u v : ℤ) → IsFound u → IsFound v → u <ℤ v → (end_at u ≤ℤ v) × (end_at u ≡ v → governor_at u ≢ governor_at v)
  apart u v m n less =
      let (low, high, some, first) = inside v n in
      let (from_u, high_u, some_u, first_u) = inside u m in
      let not_first : int_eq v from ≡ false = later_than from u v from_u less in
      let differs = changed (int_eq v from) (same_winner (governor_at (v -ℤ pos 1)) (governor_at v)) not_first first in (
        segments_are_apart tie book id kind from to u v m n less,
        λ touching same. false≢true (
            sym differs
            ∙ same_from_winner (governor_at (v -ℤ pos 1)) (governor_at v)
            (segments_show_one tie book id kind to u (v -ℤ pos 1) (from_before u v less) (to_before v (end_at u) touching) ∙ same)
            ),
      )
    where
      later_than : (a b c : ℤ) → a ≤ℤ b → b <ℤ c → int_eq c a ≡ false
      later_than a b c h k = grind (arith, ints)

      from_before : (a b : ℤ) → a <ℤ b → a ≤ℤ (b -ℤ pos 1)
      from_before a b h = omega (arith, ints)

      to_before : (b c : ℤ) → c ≡ b → (b -ℤ pos 1) <ℤ c
      to_before b c h = omega (arith, ints)

  row : IsRow governor_at end_at (beginnings tie book id kind from to)
  row = row_of governor_at end_at (beginnings tie book id kind from to) (segments_are_in_order tie book id kind from to) beginning apart

  -- an instant of the window is governed just where it lies on a segment
  any_passes : (t : ℤ) (us : List ℤ) → ((u : ℤ) → list_any (int_eq u) us ≡ true → (from ≤ℤ u) × (end_at u ≤ℤ to))
      → list_any (on_segment governor_at end_at t) us ≡ true → (int_le from t && int_lt t to) ≡ true
  any_passes t [] each h = absurd (false≢true h)
  any_passes t (u ∷ us) each h = by (on_segment governor_at end_at t u) refl h (any_passes t us (λ v m. each v (among governor_at end_at (int_eq v u) (list_any (int_eq v) us) m)))
    where
      low_high : (a b c d e : ℤ) → a ≤ℤ b → d ≤ℤ e → (int_le b c && int_lt c d) ≡ true → (int_le a c && int_lt c e) ≡ true
      low_high a b c d e h k l = grind (arith, ints)

      by : (b : Bool) → on_segment governor_at end_at t u ≡ b → (b || list_any (on_segment governor_at end_at t) us) ≡ true
          → (list_any (on_segment governor_at end_at t) us ≡ true → (int_le from t && int_lt t to) ≡ true) → (int_le from t && int_lt t to) ≡ true
      by true c k rest = let (low, high) = each u (itself governor_at end_at u us) in low_high from u t (end_at u) to low high c
      by false c k rest = rest k

  within : (e : End) → end_within to e ≤ℤ to
  within (At v) = by (int_lt v to) refl
    where
      by : (b : Bool) → int_lt v to ≡ b → cond b v to ≤ℤ to
      by true h = grind (arith, ints)
      by false h = omega (arith, ints)
  within Endless = omega (arith, ints)

  any_covers : (u t : ℤ) (us : List ℤ) → list_any (int_eq u) us ≡ true → on_segment governor_at end_at t u ≡ true → list_any (on_segment governor_at end_at t) us ≡ true
  any_covers u t [] m h = absurd (false≢true m)
  any_covers u t (v ∷ vs) m h = by (int_eq u v) refl m (λ n. any_covers u t vs n h)
    where
      same : (a b : ℤ) → int_eq a b ≡ true → a ≡ b
      same a b k = grind (arith, ints)

      by : (b : Bool) → int_eq u v ≡ b → (b || list_any (int_eq u) vs) ≡ true
          → (list_any (int_eq u) vs ≡ true → list_any (on_segment governor_at end_at t) vs ≡ true) → (on_segment governor_at end_at t v || list_any (on_segment governor_at end_at t) vs) ≡ true
      by true c n rest = ap (λ x. x || list_any (on_segment governor_at end_at t) vs) (ap (on_segment governor_at end_at t) (sym (same u v c)) ∙ h)
      by false c n rest = among governor_at end_at (on_segment governor_at end_at t v) (list_any (on_segment governor_at end_at t) vs) (rest n)

  ungoverned : (t : ℤ) → (int_le from t && int_lt t to) ≡ true → list_any (on_segment governor_at end_at t) (beginnings tie book id kind from to) ≡ false → governor_at t ≡ None
  ungoverned t h none = by (governor_at t) refl
    where
      lies : (a b c : ℤ) → a ≤ℤ b → b <ℤ c → (int_le a b && int_lt b c) ≡ true
      lies a b c h k = grind (arith, ints)

      by : (o : Option Winner) → governor_at t ≡ o → o ≡ None
      by None g = refl
      by (Some w) g =
          let (p, q) = and_parts (int_le from t) (int_lt t to) h in
          let (u, m, le, lt) = segments_cover_all tie book id kind from to t (is_least from t p) (is_less t to q) (ap is_some g) in
          absurd (false≢true (sym none ∙ any_covers u t (beginnings tie book id kind from to) m (lies u t (end_at u) le lt)))

  covered : (t : ℤ) → cond (list_any (on_segment governor_at end_at t) (beginnings tie book id kind from to)) (governor_at t) None ≡ governs_within tie book id kind from to t
  covered t = by (list_any (on_segment governor_at end_at t) (beginnings tie book id kind from to)) (int_le from t && int_lt t to) refl refl
    where
      bounds_of : (u : ℤ) → IsFound u → (from ≤ℤ u) × (end_at u ≤ℤ to)
      bounds_of u m = let (low, high, some, first) = inside u m in (low, within (until tie book id kind u))

      by : (b c : Bool) → list_any (on_segment governor_at end_at t) (beginnings tie book id kind from to) ≡ b → (int_le from t && int_lt t to) ≡ c
          → cond b (governor_at t) None ≡ cond c (governor_at t) None
      by true true h k = refl
      by true false h k = absurd (false≢true (sym k ∙ any_passes t (beginnings tie book id kind from to) bounds_of h))
      by false true h k = sym (ungoverned t k h)
      by false false h k = refl

  calendar : IsCalendar tie book id kind from to (segments_within tie book id kind from to)
  calendar = record {
    canonical = canonical governor_at end_at (beginnings tie book id kind from to) row;
    governed = λ t. shown_by_row governor_at end_at (beginnings tie book id kind from to) t row ∙ covered t;
  }

  cut_again : (e : End) → end_within to (At (end_within to e)) ≡ end_within to e
  cut_again e = by (end_within to e) (within e)
    where
      by : (v : ℤ) → v ≤ℤ to → cond (int_lt v to) v to ≡ v
      by v h = grind (arith, ints)

  -- a line for each beginning is a line for each segment
  lines : (us : List ℤ) → flat_map (segment_line tie book id kind to) us ≡ flat_map (line_of_segment book kind to) (filter_map (segment_from tie book id kind to) us)
  lines [] = refl
  lines (u ∷ us) = by (governor_at u) refl (lines us)
    where
      by : (o : Option Winner) → governor_at u ≡ o
          → flat_map (segment_line tie book id kind to) us ≡ flat_map (line_of_segment book kind to) (filter_map (segment_from tie book id kind to) us)
          → option_map_or (segment_text u (end_at u)) (option_and_then (shown_of book kind) o) [] ++ flat_map (segment_line tie book id kind to) us
          ≡ flat_map (line_of_segment book kind to) (cons_option (option_map (λ w. record { start = u; end = At (end_at u); winner = w }) o) (filter_map (segment_from tie book id kind to) us))
      by None h rest = rest
      by (Some w) h rest =
          ap (λ bytes. option_map_or (segment_text u (end_at u)) (shown_of book kind w) [] ++ bytes) rest
          ∙ ap (λ e. option_map_or (segment_text u e) (shown_of book kind w) [] ++ flat_map (line_of_segment book kind to) (filter_map (segment_from tie book id kind to) us)) (sym (cut_again (until tie book id kind u)))

  -- the lines of any timeline of the window are those of its beginnings
  pub timeline_told : CanonicalIsUnique → (timeline : List Segment) → IsCalendar tie book id kind from to timeline
      → flat_map (line_of_segment book kind to) timeline ≡ flat_map (segment_line tie book id kind to) (beginnings tie book id kind from to)
  timeline_told unique timeline c =
      ap (flat_map (line_of_segment book kind to))
      (unique timeline (segments_within tie book id kind from to) c.canonical calendar.canonical (λ t. c.governed t ∙ sym (calendar.governed t)))
      ∙ sym (lines (beginnings tie book id kind from to))

pub lists_tell_timelines : ListsTellTimelines
lists_tell_timelines tie book id kind from to = (
  calendar tie book id kind from to,
  ap (in_lines book) (lines tie book id kind from to (beginnings tie book id kind from to)),
)
