-- The segments of a window, from the ranked entries.
use Rattle.std.proofs.Common.{◌≡◌, ℕ, ℤ, pos, Bool, ◌&&◌, ◌||◌, not, List, [], ◌∷◌, ◌++◌, filter, refl, sym, ap, subst, ◌∙◌}
use Rattle.std.specs.Prelude.{Option, Some, None, is_some, int_le, int_lt, option_to_list, ◌-ℤ◌}
use Rattle.std.specs.List.{cons_option, filter_map, flat_map}
use Rattle.std.specs.Option.{option_map}
use Rattle.std.specs.Ordering.{int_cmp, int_eq}
use Rattle.adr_value.specs.declared.payload.PayloadType.{PayloadType}
use Rattle.adr_time.specs.declared.span.End.TheVariants.{At}
use Rattle.adr_model.specs.declared.entry.Entry.{Entry}
use Rattle.adr_model.specs.declared.entry.Tie.{Tie}
use Rattle.adr_model.specs.declared.timeline.Segment.{Segment}
use Rattle.adr_model.specs.declared.timeline.Winner.{Winner}
use Rattle.adr_model.specs.Answer.{bounds, changes, earliest, same_winner, until}
use Rattle.adr_model.specs.Book.{Book}
use Rattle.adr_model.specs.Governor.{entries_for, ranked_entries, winner_at}
use Rattle.adr_model.specs.Queries.{beginnings, end_within, in_order}
use Rattle.adr_model.proofs.Ranked.{bounds_ranked, governs_winners}
use Rattle.adr_calendar.specs.Segments.{segments_within, IsCalendar}
use Rattle.adr_calendar.proofs.Segments.{lists_tell_timelines}
use Rattle.adr_calendar.proofs.Walked.{flat_map-filter}
use Rattle.adr_plain.specs.Scan.{segment_at}

-- what is there, one by one
there_one_by_one : {X Y : Type 0} (f : X → Option Y) (xs : List X) → flat_map (λ x. option_to_list (f x)) xs ≡ filter_map f xs
there_one_by_one f [] = refl
there_one_by_one f (x ∷ xs) = by (f x) (there_one_by_one f xs)
  where
    by : {Y : Type 0} (o : Option Y) {ys zs : List Y} → ys ≡ zs → option_to_list o ++ ys ≡ cons_option o zs
    by None h = h
    by (Some y) h = ap (λ ws. y ∷ ws) h

module _ (entries : List Entry) (from to : ℤ) where
  abbrev begins_by : (ℤ → Option Winner) → ℤ → Bool
  begins_by g u = int_le from u && (int_lt u to && (is_some (g u) && (int_eq u from || not (same_winner (g (u -ℤ pos 1)) (g u)))))

  abbrev segment_by : (ℤ → Option Winner) → ℤ → Option Segment
  segment_by g u = option_map (λ w. record { start = u; end = At (end_within to (earliest (changes entries u))); winner = w }) (g u)

  abbrev segments_by : (ℤ → Option Winner) → List ℤ → List Segment
  segments_by g us = filter_map (segment_by g) (filter (begins_by g) (in_order int_cmp (from ∷ us)))

pub all_segments : (tie : Tie) (book : Book) (id : List ℕ) (kind : PayloadType) (from to : ℤ)
    → flat_map (segment_at (ranked_entries tie book id kind) from to) (in_order int_cmp (from ∷ bounds (ranked_entries tie book id kind)))
    ≡ segments_within tie book id kind from to
unfolding beginnings until
all_segments tie book id kind from to =
    let entries = ranked_entries tie book id kind in
    let segments = segments_by entries from to in
    sym (flat_map-filter (λ u. option_to_list (segment_by entries from to (winner_at entries) u)) (begins_by entries from to (winner_at entries)) (in_order int_cmp (from ∷ bounds entries)))
    ∙ there_one_by_one (segment_by entries from to (winner_at entries)) (filter (begins_by entries from to (winner_at entries)) (in_order int_cmp (from ∷ bounds entries)))
    ∙ ap (segments (winner_at entries)) (bounds_ranked tie (entries_for book id kind))
    ∙ ap (λ g. segments g (bounds (entries_for book id kind))) (sym (governs_winners tie book id kind))

pub segments_are_calendar : (tie : Tie) (book : Book) (id : List ℕ) (kind : PayloadType) (from to : ℤ) (timeline : List Segment)
    → timeline ≡ segments_within tie book id kind from to → IsCalendar tie book id kind from to timeline
segments_are_calendar tie book id kind from to timeline is =
    subst (IsCalendar tie book id kind from to) (sym is) (lists_tell_timelines tie book id kind from to).0
