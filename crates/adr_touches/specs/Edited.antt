-- What an edit touches, by what it concerns.
use Rattle.std.specs.Prelude.{◌≡◌, ℕ, Bool, true, false, List, ◌++◌, flat_map, Option}
use Rattle.std.specs.Str.{bytes_eq}
use Rattle.adr_object.specs.declared.object.Object.{Object}
use Rattle.adr_object.specs.declared.object.Object.TheVariants.{Program as program, Event as event, Ven as ven, Resource as resource}
use Rattle.adr_object.specs.declared.object.Kind.TheVariants.{Program as program_kind, Event as event_kind, Ven as ven_kind, Resource as resource_kind}
use Rattle.adr_object.specs.declared.object.Edit.{Edit}
use Rattle.adr_object.specs.declared.object.Edit.TheVariants.{Create, Change, Remove}
use Rattle.adr_model.specs.declared.touch.Touch.{Touch}
use Rattle.adr_model.specs.declared.written.Written.{Written}
use Rattle.adr_model.specs.Book.{Book}
use Rattle.adr_model.specs.Lists.{In}
use Rattle.adr_model.specs.Touches.{applying}
use Rattle.adr_repair.specs.Table.{is_event_of, is_resource_of, spans, spans_if_differs}
use Rattle.adr_touches.specs.declared.concern.Concern.{Concern}
use Rattle.adr_touches.specs.declared.concern.Concern.TheVariants.{Nothing, Program as of_program, Event as of_event, Ven as of_ven, Resource as of_resource}
use Rattle.adr_touches.specs.declared.concern.Rows.{Rows}
use Rattle.adr_touches.specs.declared.concern.Rows.TheVariants.{Before, After, Both, Differing}

-- the resources and the events that the object's creation concerns; a program or ven that comes is named by nothing
abbrev pub concern_of_create : Object → Concern
concern_of_create (program p) = Nothing
concern_of_create (event x) = of_event x.id
concern_of_create (ven v) = Nothing
concern_of_create (resource x) = of_resource x.id

-- those that its change concerns
abbrev pub concern_of_change : Object → Concern
concern_of_change (program p) = of_program p.id
concern_of_change (event x) = of_event x.id
concern_of_change (ven v) = of_ven v.id
concern_of_change (resource x) = of_resource x.id

-- those that the edit concerns; a program or ven that goes is named by nothing
abbrev pub concern_of : Edit → Concern
concern_of (Create o) = concern_of_create o
concern_of (Change o) = concern_of_change o
concern_of (Remove program_kind id) = Nothing
concern_of (Remove event_kind id) = of_event id
concern_of (Remove ven_kind id) = Nothing
concern_of (Remove resource_kind id) = of_resource id

-- which spans of an event it touches
abbrev pub rows_of_change : Object → Rows
rows_of_change (event x) = Both
rows_of_change _ = Differing

abbrev pub rows_of : Edit → Rows
rows_of (Create o) = After
rows_of (Change o) = rows_of_change o
rows_of (Remove kind id) = Before

abbrev pub concerns_resource : Book → Concern → List ℕ → Bool
concerns_resource old Nothing r = false
concerns_resource old (of_program id) r = true
concerns_resource old (of_event id) r = true
concerns_resource old (of_ven id) r = is_resource_of old id r
concerns_resource old (of_resource id) r = bytes_eq id r

abbrev pub concerns_event : Book → Concern → List ℕ → Bool
concerns_event old Nothing e = false
concerns_event old (of_program id) e = is_event_of old id e
concerns_event old (of_event id) e = bytes_eq id e
concerns_event old (of_ven id) e = true
concerns_event old (of_resource id) e = true

-- the spans of the event that applied, of the one that applies, of both, or where there is just one of them
abbrev pub rows_between : Rows → List ℕ → Option Written → Option Written → List Touch
rows_between Before r a b = spans r a
rows_between After r a b = spans r b
rows_between Both r a b = spans r a ++ spans r b
rows_between Differing r a b = spans_if_differs r a b

-- those of one resource, by event
abbrev pub rows_on : Book → Book → Rows → List (List ℕ) → List ℕ → List Touch
rows_on old new rows events r = flat_map (λ e. rows_between rows r (applying old r e) (applying new r e)) events

-- in each of the lists all touches are of one resource
abbrev pub AreByResource : List (List Touch) → Type 0
AreByResource lists = (list : List Touch) (a b : Touch) → In list lists → In a list → In b list → a.resource ≡ b.resource
