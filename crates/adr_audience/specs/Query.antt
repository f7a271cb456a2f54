-- Which rows of keys an event is for.
use Rattle.std.specs.Prelude.{ℕ, Bool, false, ◌&&◌, ◌||◌, List, [], codes, filter, get_or, length, if◌then◌else◌}
use Rattle.std.specs.List.{list_any, list_all, range_with_len}
use Rattle.std.specs.Option.{option_map_or}
use Rattle.std.specs.Str.{bytes_eq}
use Rattle.adr_value.specs.declared.datum.Datum.{Datum}
use Rattle.adr_object.specs.declared.event.Event.{Event}
use Rattle.adr_object.specs.declared.event.Target.{Target}
use Rattle.adr_object.specs.declared.party.Program.{Program}
use Rattle.adr_model.specs.Matching.{is_name, is_event_name}
use Rattle.adr_keys.specs.declared.key.Key.{Key}
use Rattle.adr_audience.specs.Offers.{asked_key}

-- the type asks for the name of the event or of its program
abbrev pub is_fixed : List ℕ → Bool
is_fixed kind = bytes_eq kind (codes "EVENT_NAME") || bytes_eq kind (codes "PROGRAM_NAME")

-- the name that is asked for is that of the event, or of its program
abbrev pub is_called : Event → Program → List ℕ → Datum → Bool
is_called event program kind value = if bytes_eq kind (codes "EVENT_NAME") then is_event_name value event.event_name else is_name value program.program_name

-- what is offered has what the value under the type asks for
abbrev pub is_offered : (Key → Bool) → List ℕ → Datum → Bool
is_offered offered kind value = option_map_or offered (asked_key kind value) false

abbrev pub meets_value : Event → Program → (Key → Bool) → List ℕ → Datum → Bool
meets_value event program offered kind = if is_fixed kind then is_called event program kind else is_offered offered kind

-- some value under the type is met
abbrev pub meets_type : (List ℕ → Datum → Bool) → List Target → List ℕ → Bool
meets_type test targets kind = list_any (λ u. bytes_eq u.kind kind && list_any (test kind) u.values) targets

-- for each type in the list, some value under that type is met
abbrev pub meets : (List ℕ → Datum → Bool) → List Target → Bool
meets test targets = list_all (λ t. meets_type test targets t.kind) targets

-- the event's own targets and its program's are met by what is offered
abbrev pub is_for : Event → Program → (Key → Bool) → Bool
is_for event program offered = meets (meets_value event program offered) event.targets && meets (meets_value event program offered) program.targets

-- the places of the rows that pass, in order
abbrev pub places_where : (List Key → Bool) → List (List Key) → List ℕ
places_where test rows = filter (λ place. test (get_or rows place [])) (range_with_len 0 (length rows))
