-- The payload types of which something governs a resource, by the lines of its group.
use Rattle.std.specs.Prelude.{◌≡◌, ◌↔◌, ℕ, ℤ, Bool, false, List, [], ◌∷◌, flat_map, IsTrue, is_some, if◌then◌else◌}
use Rattle.adr_value.specs.Names.{is_table_name}
use Rattle.adr_value.specs.declared.payload.PayloadType.{PayloadType}
use Rattle.adr_value.specs.declared.payload.PayloadType.TheVariants.{Private}
use Rattle.adr_object.specs.declared.event.Event.{Event}
use Rattle.adr_object.specs.declared.event.Interval.{Interval}
use Rattle.adr_object.specs.declared.event.Payload.{Payload}
use Rattle.adr_object.specs.declared.object.Edit.{Edit}
use Rattle.adr_object.specs.declared.object.Edit.TheVariants.{Create, Change, Remove}
use Rattle.adr_object.specs.declared.object.Object.{Object}
use Rattle.adr_object.specs.declared.object.Object.TheVariants.{Event as event}
use Rattle.adr_model.specs.declared.timeline.Segment.{Segment}
use Rattle.adr_model.specs.Book.{Book}
use Rattle.adr_model.specs.Lists.{In}
use Rattle.adr_model.specs.Queries.{private_name, private_names}
use Rattle.adr_group.specs.Group.{shown_in}

-- none of the names of private types is one of the table's
abbrev pub ArePrivate : List (List ℕ) → Type 0
ArePrivate names = (name : List ℕ) → In name names → is_table_name name ≡ false

abbrev pub payload_names : Payload → List (List ℕ)
payload_names p = private_name p.kind

abbrev pub interval_names : Interval → List (List ℕ)
interval_names i = flat_map payload_names i.payloads

-- the names of the private types that the event carries
abbrev pub event_names : Event → List (List ℕ)
event_names e = flat_map interval_names e.intervals

abbrev pub object_names : Object → List (List ℕ)
object_names (event e) = event_names e
object_names _ = []

-- the names of the private types that the edit brings
abbrev pub edit_names : Edit → List (List ℕ)
edit_names (Create o) = object_names o
edit_names (Change o) = object_names o
edit_names (Remove kind id) = []

-- no event of the book carries a private type under a name of the table
abbrev pub HasPrivateNames : Book → Type 0
HasPrivateNames book = ArePrivate (private_names book)

-- the test holds of a payload type just where its line shows something at some instant
abbrev pub IsTypeTest : List (List ℕ × List Segment) → (PayloadType → Bool) → Type 0
IsTypeTest lines test = (k : PayloadType) → IsTrue (test k) ↔ ((t : ℤ) × IsTrue (is_some (shown_in lines k t)))

-- the type, where the test holds
abbrev pub type_if : (PayloadType → Bool) → PayloadType → List PayloadType
type_if test k = if test k then k ∷ [] else []

-- the private type of the name, where the test holds; none where the name is of the table
abbrev pub private_if : (PayloadType → Bool) → List ℕ → List PayloadType
private_if test name = if is_table_name name then [] else type_if test (Private name)
