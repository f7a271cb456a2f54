-- Steps of a scan.
use Rattle.std.specs.Prelude.{ℕ, ℤ, pos, ◌-ℤ◌, int_le, int_lt, Bool, not, ◌&&◌, ◌||◌, List, [], ◌∷◌, Option, is_some, option_to_list, if◌then◌else◌}
use Rattle.std.specs.Bool.{then_some}
use Rattle.std.specs.List.{zip, filter_map, slice_get}
use Rattle.std.specs.Option.{option_map, option_map_or}
use Rattle.adr_object.specs.declared.event.Event.{Event}
use Rattle.adr_object.specs.declared.event.Interval.{Interval}
use Rattle.adr_object.specs.declared.party.Resource.{Resource}
use Rattle.adr_value.specs.declared.payload.PayloadType.{PayloadType}
use Rattle.std.specs.Ordering.{int_eq}
use Rattle.adr_model.specs.Answer.{changes, earliest, same_winner}
use Rattle.adr_model.specs.Book.{Book}
use Rattle.adr_model.specs.Governor.{applies_to, entries_of, entry_at, winner_at}
use Rattle.adr_model.specs.Queries.{end_within, is_governed}
use Rattle.adr_model.specs.Rank.{goes_before, carries}
use Rattle.adr_model.specs.declared.entry.Tie.{Tie}
use Rattle.adr_model.specs.declared.entry.Entry.{Entry}
use Rattle.adr_model.specs.declared.entry.Placed.{Placed}
use Rattle.adr_model.specs.declared.timeline.Segment.{Segment}
use Rattle.adr_time.specs.declared.span.End.TheVariants.{At}
use Rattle.adr_model.specs.declared.written.Written.{Written}

-- the event that the edit of that number wrote
abbrev pub written_event : Event → ℕ → Written
written_event event n = record { event = event; written = n }

-- the entries of laid out intervals that carry the type
abbrev pub placed_entries : PayloadType → Written → List Interval → List Placed → List Entry
placed_entries payload_type w is ps = filter_map (λ p. then_some (carries p.0 payload_type) (entry_at w p.1.place p.1.span)) (zip is ps)

-- the entries of the type in the event, if it applies to the resource
abbrev pub entries_if_applied : Book → Resource → PayloadType → Written → List Entry
entries_if_applied book resource payload_type w = if applies_to book resource w then entries_of payload_type w else []

-- those of the event at a place, if there is one
abbrev pub entries_at : Book → Resource → PayloadType → ℕ → List Entry
entries_at book resource payload_type place = option_map_or (entries_if_applied book resource payload_type) (slice_get book.events place) []

-- the entry, or the one that was found where that goes before
abbrev pub first_with : Entry → Option Entry → Entry
first_with e found = option_map_or (λ f. if goes_before e.rank f.rank then e else f) found e

-- something wins at the instant, and it is the window's first or another wins at the instant before
abbrev pub begins_in : List Entry → ℤ → ℤ → Bool
begins_in entries from u =
    is_some (winner_at entries u)
    && (int_eq u from || not (same_winner (winner_at entries (u -ℤ pos 1)) (winner_at entries u)))

-- the segment that begins at an instant of the window, if one does
abbrev pub segment_of : List Entry → ℤ → ℤ → List Segment
segment_of entries to u = option_to_list (option_map (λ w. record { start = u; end = At (end_within to (earliest (changes entries u))); winner = w }) (winner_at entries u))

abbrev pub segment_at : List Entry → ℤ → ℤ → ℤ → List Segment
segment_at entries from to u = if int_le from u && (int_lt u to && begins_in entries from u) then segment_of entries to u else []

-- the type, if it governs at some instant
abbrev pub type_if_governed : Tie → Book → List ℕ → PayloadType → List PayloadType
type_if_governed tie book id payload_type = if is_governed tie book id payload_type then payload_type ∷ [] else []
