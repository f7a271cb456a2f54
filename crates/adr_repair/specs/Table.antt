-- What an edit touches, by the kind of the edit.
use Rattle.std.specs.Prelude.{◌≡◌, ℕ, Bool, false, List, [], ◌++◌, map, flat_map, Option, Some, None, Ok, if◌then◌else◌}
use Rattle.std.specs.Str.{bytes_eq}
use Rattle.std.specs.Option.{option_map_or}
use Rattle.adr_value.specs.Limits.{Limits}
use Rattle.adr_object.specs.declared.object.Object.TheVariants.{Program as program, Event as event, Ven as ven, Resource as resource}
use Rattle.adr_object.specs.declared.object.Kind.TheVariants.{Program as program_kind, Event as event_kind, Ven as ven_kind, Resource as resource_kind}
use Rattle.adr_object.specs.declared.object.Edit.{Edit}
use Rattle.adr_object.specs.declared.object.Edit.TheVariants.{Create, Change, Remove}
use Rattle.adr_model.specs.declared.touch.Touch.{Touch}
use Rattle.adr_model.specs.declared.written.Written.{Written}
use Rattle.adr_model.specs.Book.{Book, resource_by, event_by}
use Rattle.adr_model.specs.Edits.{step_by}
use Rattle.adr_model.specs.Touches.{applying, touches, touches_of, ids_of_both}
use Rattle.adr_model.specs.Whole.{IsWhole, event_ids}

-- the spans of the event that applies
abbrev pub spans : List ℕ → Option Written → List Touch
spans r None = []
spans r (Some w) = touches_of r w

-- the spans of the event, where it applies before or after and not both
abbrev pub spans_if_differs : List ℕ → Option Written → Option Written → List Touch
spans_if_differs r None None = []
spans_if_differs r None (Some w) = touches_of r w
spans_if_differs r (Some w) None = touches_of r w
spans_if_differs r (Some w) (Some v) = []

-- the event e is one of the program
abbrev pub is_event_of : Book → List ℕ → List ℕ → Bool
is_event_of book id e = option_map_or (λ w. bytes_eq id w.event.program_id) (event_by book e) false

-- the resource r is one of the ven
abbrev pub is_resource_of : Book → List ℕ → List ℕ → Bool
is_resource_of book id r = option_map_or (λ x. bytes_eq id x.ven_id) (resource_by book r) false

-- what the edit touches at a resource and an event: an event that is written or removed, its old spans where it applied
-- and then its new ones where it applies; a program, ven or resource that is changed, the spans of each event that
-- applies only before or only after; a resource that comes or goes, the spans of each event that applies to it
abbrev pub touched_at : Book → Book → Edit → List ℕ → List ℕ → List Touch
touched_at old new (Create (event x)) r e = if bytes_eq x.id e then spans r (applying new r e) else []
touched_at old new (Change (event x)) r e = if bytes_eq x.id e then (spans r (applying old r e) ++ spans r (applying new r e)) else []
touched_at old new (Remove event_kind id) r e = if bytes_eq id e then spans r (applying old r e) else []
touched_at old new (Change (program p)) r e =
    if is_event_of old p.id e then spans_if_differs r (applying old r e) (applying new r e) else []
touched_at old new (Change (ven v)) r e =
    if is_resource_of old v.id r then spans_if_differs r (applying old r e) (applying new r e) else []
touched_at old new (Change (resource x)) r e =
    if bytes_eq x.id r then spans_if_differs r (applying old r e) (applying new r e) else []
touched_at old new (Create (resource x)) r e = if bytes_eq x.id r then spans r (applying new r e) else []
touched_at old new (Remove resource_kind id) r e = if bytes_eq id r then spans r (applying old r e) else []
-- a program or ven that comes or goes is named by nothing
touched_at old new (Create (program p)) r e = []
touched_at old new (Create (ven v)) r e = []
touched_at old new (Remove program_kind id) r e = []
touched_at old new (Remove ven_kind id) r e = []

-- by resource (those before the edit, then a new one), then by event
abbrev pub table : Book → Book → Edit → List Touch
table old new edit =
    flat_map
    (λ r. flat_map (λ e. touched_at old new edit r e) (ids_of_both (event_ids old) (event_ids new)))
    (ids_of_both (map (λ r. r.id) old.resources) (map (λ r. r.id) new.resources))

-- the touches of an accepted edit of a whole book are those of the table, under any limits and wherever the book is full
abbrev pub TouchesAreTheTable : Type 0
TouchesAreTheTable =
    (l : Limits) (full : ℕ) (old new : Book) (edit : Edit) → IsWhole old → step_by l full old edit ≡ Ok new → touches old new ≡ table old new edit
