-- What an event asks for, and which events apply to a resource.
use Rattle.std.specs.Prelude.{ℕ, Bool, false, ◌&&◌, List, [], ◌∷◌, ◌++◌, map, filter, flat_map, slice_get, option_to_list, Option, Some, None, if◌then◌else◌}
use Rattle.std.specs.List.{list_all, list_any}
use Rattle.std.specs.Option.{option_map_or, option_and_then}
use Rattle.std.specs.Str.{bytes_eq}
use Rattle.adr_object.specs.declared.event.Event.{Event}
use Rattle.adr_object.specs.declared.event.Target.{Target}
use Rattle.adr_object.specs.declared.party.Program.{Program}
use Rattle.adr_object.specs.declared.party.Ven.{Ven}
use Rattle.adr_object.specs.declared.party.Resource.{Resource}
use Rattle.adr_model.specs.declared.written.Written.{Written}
use Rattle.adr_model.specs.Matching.{applies}
use Rattle.adr_model.specs.Book.{Book, program_by}
use Rattle.adr_keys.specs.declared.key.Key.{Key}
use Rattle.adr_keys.specs.declared.key.Key.TheVariants.{Anyone}
use Rattle.adr_keys.specs.Rows.{offers_key, is_key_of, renewed}
use Rattle.adr_audience.specs.Offers.{asked_key}
use Rattle.adr_audience.specs.Query.{is_fixed}

-- the keys that a map asks for; the names of the event and of its program are no keys
abbrev pub asked_by_target : Target → List Key
asked_by_target t = if is_fixed t.kind then [] else flat_map (λ v. option_to_list (asked_key t.kind v)) t.values

abbrev pub asked_by : List Target → List Key
asked_by targets = flat_map asked_by_target targets

-- the list asks for no key: each type is for the name of the event or of its program
abbrev pub asks_no_key : List Target → Bool
asks_no_key targets = list_all (λ t. is_fixed t.kind) targets

-- what an event of the program asks for
abbrev pub asks : Event → Program → List Key
asks event program = if asks_no_key event.targets && asks_no_key program.targets then Anyone ∷ [] else (asked_by event.targets ++ asked_by program.targets)

-- what an event of the book asks for; nothing where its program is not there
abbrev pub asked_in : Book → Event → List Key
asked_in book event = option_map_or (asks event) (program_by book event.program_id) []

-- what each event of the book asks for
abbrev pub asks_of : Book → List (List Key)
asks_of book = map (λ w. asked_in book w.event) book.events

-- something is asked for that is offered
abbrev pub shares : List Key → List Key → Bool
shares asked offered = list_any (offers_key asked) offered

-- the event, with its program of the book, applies to the resource of the ven
abbrev pub applies_with : Book → Resource → Ven → Event → Bool
applies_with book resource ven event =
    option_map_or (λ program. applies (record { program = program; event = event; ven = ven; resource = resource })) (program_by book event.program_id) false

-- the events of the book that apply to the resource of the ven, in order of creation
abbrev pub applying_writes : Book → Resource → Ven → List Written
applying_writes book resource ven = filter (λ w. applies_with book resource ven w.event) book.events

-- the number of the write of the event at the place, if the event applies to the resource of the ven
abbrev pub number_at : Book → Resource → Ven → ℕ → Option ℕ
number_at book resource ven place = option_and_then (λ w. if applies_with book resource ven w.event then Some w.written else None) (slice_get book.events place)

-- those of the keys that some row asks for
abbrev pub asked_keys : List (List Key) → List Key → List Key
asked_keys asks keys = filter (is_key_of asks) keys

-- what an event asks for with the program, where it is the program's
abbrev pub fresh_asks : Program → Event → Option (List Key)
fresh_asks program event = if bytes_eq program.id event.program_id then Some (asks event program) else None

-- the rows after the program is changed: its events ask for what they do with the new one
abbrev pub with_program : Program → List Written → List (List Key) → List (List Key)
with_program program events rows = renewed (map (λ w. fresh_asks program w.event) events) rows
