-- Which interval governs a resource and a payload type at an instant.
use Rattle.std.specs.Prelude.{◌↔◌, ℕ, ℤ, pos, Bool, false, List, [], ◌∷◌, Option, Some, None, if◌then◌else◌, map, filter, flat_map, filter_map, Contains}
use Rattle.std.specs.List.{enumerate_from, zip}
use Rattle.std.specs.Bool.{then_some}
use Rattle.std.specs.Option.{option_map_or, option_map}
use Rattle.std.specs.Result.{result_unwrap_or}
use Rattle.adr_value.specs.declared.payload.PayloadType.{PayloadType}
use Rattle.adr_time.specs.Spans.{covers}
use Rattle.adr_time.specs.declared.span.Span.{Span}
use Rattle.adr_object.specs.declared.party.Resource.{Resource}
use Rattle.adr_model.specs.declared.entry.Entry.{Entry}
use Rattle.adr_model.specs.declared.entry.Rank.{Rank}
use Rattle.adr_model.specs.declared.entry.Tie.{Tie}
use Rattle.adr_model.specs.declared.timeline.Winner.{Winner}
use Rattle.adr_model.specs.Layout.{layout}
use Rattle.adr_model.specs.Matching.{applies}
use Rattle.adr_model.specs.Rank.{carries, priority_of, goes_before, ranked}
use Rattle.adr_model.specs.declared.written.Written.{Written}
use Rattle.adr_model.specs.Book.{Book, resource_by, scene_of}

-- interval k of the written event as an entry, at that span; the rule for ties says later how late it counts
abbrev pub entry_at : Written → ℕ → Span → Entry
entry_at w k span =
    record { rank = record { priority = priority_of w.event.priority; late = pos 0; written = w.written; place = k }; span = span }

-- an entry for each interval that carries the type
abbrev pub entries_of : PayloadType → Written → List Entry
entries_of payload_type w =
    filter_map
    (λ p. then_some (carries p.1.0 payload_type) (entry_at w p.0 p.1.1))
    (enumerate_from 0 (zip w.event.intervals (result_unwrap_or (layout w.event) [])))

-- the event applies to the resource, in this book
abbrev pub applies_to : Book → Resource → Written → Bool
applies_to book resource w = option_map_or applies (scene_of book w.event resource) false

-- the entries of the type in the events that apply to the resource
abbrev pub entries_for : Book → List ℕ → PayloadType → List Entry
entries_for book id payload_type =
    option_map_or (λ resource. flat_map (entries_of payload_type) (filter (applies_to book resource) book.events)) (resource_by book id) []

-- those of them whose span covers the instant
unfoldable pub candidates : Book → List ℕ → PayloadType → ℤ → List Entry
candidates book id payload_type t = filter (λ e. covers e.span t) (entries_for book id payload_type)

-- the entry of the list that goes before all others
abbrev pub first_of : List Entry → Option Entry
first_of [] = None
first_of (e ∷ es) = Some (option_map_or (λ f. if goes_before f.rank e.rank then f else e) (first_of es) e)

abbrev pub winner_of : Entry → Winner
winner_of e = record { written = e.rank.written; place = e.rank.place }

-- of a list of entries, the winner at an instant
abbrev pub winner_at : List Entry → ℤ → Option Winner
winner_at entries t = option_map winner_of (first_of (filter (λ e. covers e.span t) entries))

-- the entries as they compete under a rule for ties
abbrev pub ranked_entries : Tie → Book → List ℕ → PayloadType → List Entry
ranked_entries tie book id payload_type = map (ranked tie) (entries_for book id payload_type)

-- the candidate of least rank under the rule, or none where there is no candidate
unfoldable pub governs : Tie → Book → List ℕ → PayloadType → ℤ → Option Winner
governs tie book id payload_type t = option_map winner_of (first_of (map (ranked tie) (candidates book id payload_type t)))

-- the candidates of the two books, taken by rank, are not the same set
abbrev pub Disturbed : Book → Book → List ℕ → PayloadType → ℤ → Type 0
Disturbed old new id payload_type t =
    ((rank : Rank) →
    Contains (map (λ e. e.rank) (candidates old id payload_type t)) rank ↔ Contains (map (λ e. e.rank) (candidates new id payload_type t)) rank)
    → ⊥
