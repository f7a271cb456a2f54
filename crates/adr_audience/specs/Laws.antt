-- What the rows owe: an event is for what a resource offers just where it applies to it, and edits of a book edit its rows.
use Rattle.std.specs.Prelude.{◌≡◌, ℕ, Bool, true, false, ◌++◌, ◌∷◌, [], List, Some, filter, set, remove, length, slice_get, map, is_some}
use Rattle.std.specs.List.{range_with_len, IsDistinct}
use Rattle.std.specs.Option.{option_map_or}
use Rattle.std.specs.Str.{bytes_eq}
use Rattle.adr_object.specs.declared.event.Event.{Event}
use Rattle.adr_object.specs.declared.object.Kind.TheVariants.{Program as program_kind, Event as event_kind, Ven as ven_kind, Resource as resource_kind}
use Rattle.adr_object.specs.declared.object.Object.TheVariants.{Program as program_object, Event as event_object, Resource as resource, Ven as ven_object}
use Rattle.adr_object.specs.declared.object.Edit.{Edit}
use Rattle.adr_object.specs.declared.object.Edit.TheVariants.{Create, Change, Remove}
use Rattle.adr_object.specs.declared.party.Program.{Program}
use Rattle.adr_object.specs.declared.party.Ven.{Ven}
use Rattle.adr_object.specs.declared.party.Resource.{Resource}
use Rattle.adr_model.specs.Matching.{applies}
use Rattle.adr_model.specs.Book.{Book, ven_by, program_by}
use Rattle.adr_model.specs.Edits.{made, is_named}
use Rattle.adr_model.specs.Whole.{IsWhole, event_ids}
use Rattle.adr_keys.specs.Rows.{offers_key}
use Rattle.adr_audience.specs.Offers.{offers}
use Rattle.adr_model.specs.declared.written.Written.{Written}
use Rattle.adr_audience.specs.Asks.{applying_writes, asked_in, asked_keys, asks_of, with_program}
use Rattle.adr_audience.specs.Query.{is_for}
use Rattle.adr_audience.specs.Rows.{offered_in, offers_of, with_ven}

-- an event is for what a resource with its ven offers just where it applies to the resource
abbrev pub RowsMatchAsScenes : Type 0
RowsMatchAsScenes =
    (event : Event) (program : Program) (ven : Ven) (resource : Resource)
    → is_for event program (offers_key (offers resource ven)) ≡ applies (record { program = program; event = event; ven = ven; resource = resource })

-- resources that offer the same of the keys that the events of a book ask for have the same events
abbrev pub EventsFollowAsked : Type 0
EventsFollowAsked =
    (book : Book) (r s : Resource) (v u : Ven) → asked_keys (asks_of book) (offers r v) ≡ asked_keys (asks_of book) (offers s u)
    → applying_writes book r v ≡ applying_writes book s u

-- the event of the program applies to the resource, whose ven is in the book
abbrev pub applies_in : Book → Event → Program → Resource → Bool
applies_in book event program r =
    option_map_or (λ ven. applies (record { program = program; event = event; ven = ven; resource = r })) (ven_by book r.ven_id) false

-- the places of the resources to which the event of the program applies, in order of creation
abbrev pub applying_places : Book → Event → Program → List ℕ
applying_places book event program =
    filter (λ place. option_map_or (applies_in book event program) (slice_get book.resources place) false) (range_with_len 0 (length book.resources))

-- ---- what an edit does to the rows

-- the edit is of a program or of an event
abbrev pub is_of_program_or_event : Edit → Bool
is_of_program_or_event (Create (program_object p)) = true
is_of_program_or_event (Create (event_object e)) = true
is_of_program_or_event (Change (program_object p)) = true
is_of_program_or_event (Change (event_object e)) = true
is_of_program_or_event (Remove program_kind id) = true
is_of_program_or_event (Remove event_kind id) = true
is_of_program_or_event _ = false

-- edits of programs and of events leave the rows
abbrev pub RowsOfOthers : Type 0
RowsOfOthers = (book : Book) (edit : Edit) → is_of_program_or_event edit ≡ true → offers_of (made book edit) ≡ offers_of book

-- a resource comes last, with its ven
abbrev pub RowsOfCreated : Type 0
RowsOfCreated = (book : Book) (r : Resource) → offers_of (made book (Create (resource r))) ≡ offers_of book ++ offered_in book r ∷ []

-- a resource changes in its place
abbrev pub RowsOfChanged : Type 0
RowsOfChanged =
    (book : Book) (place : ℕ) (old new : Resource) → IsDistinct bytes_eq (map (λ x. x.id) book.resources)
    → slice_get book.resources place ≡ Some old → old.id ≡ new.id
    → offers_of (made book (Change (resource new))) ≡ set (offers_of book) place (offered_in book new)

-- a resource goes, and the gap is closed
abbrev pub RowsOfRemoved : Type 0
RowsOfRemoved =
    (book : Book) (place : ℕ) (r : Resource) → IsDistinct bytes_eq (map (λ x. x.id) book.resources) → slice_get book.resources place ≡ Some r
    → offers_of (made book (Remove resource_kind r.id)) ≡ remove (offers_of book) place

-- a ven changes
abbrev pub RowsOfChangedVen : Type 0
RowsOfChangedVen =
    (book : Book) (ven : Ven) → is_some (ven_by book ven.id) ≡ true
    → offers_of (made book (Change (ven_object ven))) ≡ with_ven ven book.resources (offers_of book)

-- a ven comes, which no resource of a whole book names
abbrev pub RowsOfCreatedVen : Type 0
RowsOfCreatedVen = (book : Book) (ven : Ven) → IsWhole book → offers_of (made book (Create (ven_object ven))) ≡ offers_of book

-- a ven goes that no resource names
abbrev pub RowsOfRemovedVen : Type 0
RowsOfRemovedVen = (book : Book) (id : List ℕ) → is_named book ven_kind id ≡ false → offers_of (made book (Remove ven_kind id)) ≡ offers_of book

-- ---- what an edit does to what the events ask for

-- an event comes last, with its program
abbrev pub AsksOfCreated : Type 0
AsksOfCreated = (book : Book) (event : Event) → asks_of (made book (Create (event_object event))) ≡ asks_of book ++ asked_in book event ∷ []

-- an event changes in its place
abbrev pub AsksOfChanged : Type 0
AsksOfChanged =
    (book : Book) (place : ℕ) (old : Written) (event : Event) → IsDistinct bytes_eq (event_ids book)
    → slice_get book.events place ≡ Some old → old.event.id ≡ event.id
    → asks_of (made book (Change (event_object event))) ≡ set (asks_of book) place (asked_in book event)

-- an event goes, and the gap is closed
abbrev pub AsksOfRemoved : Type 0
AsksOfRemoved =
    (book : Book) (place : ℕ) (w : Written) → IsDistinct bytes_eq (event_ids book) → slice_get book.events place ≡ Some w
    → asks_of (made book (Remove event_kind w.event.id)) ≡ remove (asks_of book) place

-- a program changes
abbrev pub AsksOfChangedProgram : Type 0
AsksOfChangedProgram =
    (book : Book) (program : Program) → is_some (program_by book program.id) ≡ true
    → asks_of (made book (Change (program_object program))) ≡ with_program program book.events (asks_of book)

-- a program comes, which no event of a whole book names
abbrev pub AsksOfCreatedProgram : Type 0
AsksOfCreatedProgram = (book : Book) (program : Program) → IsWhole book → asks_of (made book (Create (program_object program))) ≡ asks_of book

-- a program goes that no event names
abbrev pub AsksOfRemovedProgram : Type 0
AsksOfRemovedProgram = (book : Book) (id : List ℕ) → is_named book program_kind id ≡ false → asks_of (made book (Remove program_kind id)) ≡ asks_of book

-- the edit is of a ven or of a resource
abbrev pub is_of_ven_or_resource : Edit → Bool
is_of_ven_or_resource (Create (ven_object v)) = true
is_of_ven_or_resource (Create (resource r)) = true
is_of_ven_or_resource (Change (ven_object v)) = true
is_of_ven_or_resource (Change (resource r)) = true
is_of_ven_or_resource (Remove ven_kind id) = true
is_of_ven_or_resource (Remove resource_kind id) = true
is_of_ven_or_resource _ = false

-- edits of vens and of resources leave what the events ask for
abbrev pub AsksOfOthers : Type 0
AsksOfOthers = (book : Book) (edit : Edit) → is_of_ven_or_resource edit ≡ true → asks_of (made book edit) ≡ asks_of book
