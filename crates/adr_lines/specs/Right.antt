-- The entries of some writes.
use Rattle.std.specs.Prelude.{◌↔◌, ◌==◌, ℕ, ℤ, Bool, List, Option, filter, flat_map, map}
use Rattle.std.specs.List.{list_any}
use Rattle.adr_value.specs.declared.payload.PayloadType.{PayloadType}
use Rattle.adr_model.specs.declared.entry.Entry.{Entry}
use Rattle.adr_model.specs.declared.entry.Tie.{Tie}
use Rattle.adr_model.specs.declared.timeline.Winner.{Winner}
use Rattle.adr_model.specs.declared.written.Written.{Written}
use Rattle.adr_model.specs.Governor.{entries_of, winner_at}
use Rattle.adr_model.specs.Lists.{In}
use Rattle.adr_model.specs.Rank.{ranked}

-- the winner at an instant among the entries as they compete under the rule for ties
abbrev pub winner_under : Tie → List Entry → ℤ → Option Winner
winner_under tie entries t = winner_at (map (ranked tie) entries) t

-- the lists have the same members
abbrev pub HaveSame : List Entry → List Entry → Type 0
HaveSame entries others = (e : Entry) → In e entries ↔ In e others

-- the number is in the list
abbrev pub has_number : List ℕ → ℕ → Bool
has_number numbers n = list_any (λ x. x == n) numbers

-- the entries of those writes
abbrev pub written_in : List ℕ → List Entry → List Entry
written_in writes entries = filter (λ e. has_number writes e.rank.written) entries

-- the entries of all events
abbrev pub all_of : List Written → PayloadType → List Entry
all_of events payload_type = flat_map (entries_of payload_type) events

-- the entries of those of the writes
abbrev pub among : List Written → List ℕ → PayloadType → List Entry
among events writes payload_type = flat_map (entries_of payload_type) (filter (λ w. has_number writes w.written) events)
