-- An event's entries under each of its payload types.
use Rattle.std.specs.Prelude.{ℕ, ℤ, Bool, List, [], ◌∷◌, map, flat_map, if◌then◌else◌}
use Rattle.std.specs.List.{list_any, zip, IsDistinct}
use Rattle.adr_value.specs.Same.{same_type}
use Rattle.adr_value.specs.declared.payload.PayloadType.{PayloadType}
use Rattle.adr_time.specs.Spans.{covers}
use Rattle.adr_object.specs.declared.event.Event.{Event}
use Rattle.adr_object.specs.declared.event.Interval.{Interval}
use Rattle.adr_object.specs.declared.event.Payload.{Payload}
use Rattle.adr_model.specs.declared.entry.Entry.{Entry}
use Rattle.adr_model.specs.declared.entry.Placed.{Placed}
use Rattle.adr_model.specs.declared.entry.Tie.{Tie}
use Rattle.adr_model.specs.declared.written.Written.{Written}
use Rattle.adr_model.specs.Governor.{entry_at}
use Rattle.adr_model.specs.Rank.{ranked}
use Rattle.adr_model.specs.Touches.{types_of}
use Rattle.adr_lines.specs.declared.grouped.TypeEntries.{TypeEntries}

-- the event that the edit of that number wrote
abbrev pub written_event : Event → ℕ → Written
written_event event n = record { event = event; written = n }

-- the entries of the groups under the type
abbrev pub entries_under : List TypeEntries → PayloadType → List Entry
entries_under groups payload_type = flat_map (λ g. if same_type g.payload_type payload_type then g.entries.items else []) groups

-- no two groups are of one type
abbrev pub HaveOwnTypes : List TypeEntries → Type 0
HaveOwnTypes groups = IsDistinct same_type (map (λ g. g.payload_type) groups)

-- some entry covers the instant
abbrev pub any_covers_at : List Entry → ℤ → Bool
any_covers_at entries t = list_any (λ e. covers e.span t) entries

-- the type alone, unless one of the payloads has it
abbrev pub unless_carried : List Payload → PayloadType → List PayloadType
unless_carried payloads payload_type = if list_any (λ p. same_type p.kind payload_type) payloads then [] else (payload_type ∷ [])

-- the entry, once for each of the types that is the type
abbrev pub once_for_each : Entry → List PayloadType → PayloadType → List Entry
once_for_each entry types payload_type = flat_map (λ k. if same_type k payload_type then (entry ∷ []) else []) types

-- the entries under the type of the intervals that are laid out there
abbrev pub entries_at : Tie → Written → List Interval → List Placed → PayloadType → List Entry
entries_at tie w intervals places payload_type =
    flat_map (λ p. once_for_each (ranked tie (entry_at w p.1.place p.1.span)) (types_of p.0.payloads) payload_type) (zip intervals places)
