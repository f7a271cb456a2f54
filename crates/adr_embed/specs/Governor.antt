-- What governs, as numbers beside the bytes of an id and of values.
use Rattle.std.specs.Prelude.{ℕ, ℤ, List, [], ◌++◌, length, Option, Some, None, Result}
use Rattle.std.specs.Option.{option_and_then, option_map}
use Rattle.adr_refusal.specs.Answer.{result_map, result_and_then}
use Rattle.adr_refusal.specs.declared.refusal.Refusal.{Refusal}
use Rattle.adr_value.specs.declared.payload.PayloadType.{PayloadType}
use Rattle.adr_object.specs.Id.{id_named}
use Rattle.adr_model.specs.declared.entry.Tie.{Tie}
use Rattle.adr_model.specs.Answer.{Shown, shown_of}
use Rattle.adr_model.specs.Book.{Book}
use Rattle.adr_calendar.specs.declared.calendar.State.{State}
use Rattle.adr_calendar.specs.Governed.{state_at}
use Rattle.adr_calendar.specs.Json.{json_array}
use Rattle.adr_resolver.specs.Line.{type_word}
use Rattle.adr_embed.specs.declared.governor.Governor.{Governor}
use Rattle.adr_embed.specs.declared.governor.GovernorSource.{GovernorSource}
use Rattle.adr_embed.specs.Instants.{moment_at}

-- the event's id, and behind it the values as a JSON array
abbrev pub shown_bytes : Option Shown → List ℕ
shown_bytes None = []
shown_bytes (Some s) = s.event ++ json_array s.values

-- where it comes from: the interval's id, and how many of the bytes are the event's id and how many the values
abbrev pub source_of : Shown → GovernorSource
source_of s = record { interval = s.interval; event_len = length s.event; values_len = length (json_array s.values) }

-- what is told of what governs, beside the bytes
pub record Told : Type 0 where
  pub governor : Governor
  pub bytes : List ℕ

abbrev pub told_by : Governor → List ℕ → Told
told_by governor bytes = record { governor = governor; bytes = bytes }

-- what is told of a state
abbrev pub told : Book → PayloadType → State → Told
told book payload_type state =
    let shown = option_and_then (shown_of book payload_type) state.governor in
    told_by (record { source = option_map source_of shown; until = state.until }) (shown_bytes shown)

-- what governs a resource for a payload type at an instant: faults of the moment come before the id's, then the type's
unfoldable pub governor_told : Tie → Book → List ℕ → List ℕ → ℤ → ℕ → Result Told Refusal
governor_told tie book resource payload_type seconds nanoseconds =
    result_and_then
    (λ t. result_and_then (λ id. result_and_then (λ kind. result_map (told book kind) (state_at tie book id kind t)) (type_word payload_type)) (id_named resource))
    (moment_at seconds nanoseconds)
