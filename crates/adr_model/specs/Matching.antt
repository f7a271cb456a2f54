-- Which resources an event applies to (User Guide: targeting).
use Rattle.std.specs.Prelude.{ℕ, Bool, false, ◌&&◌, ◌||◌, List, codes, Option, Some, None, if◌then◌else◌}
use Rattle.std.specs.List.{list_any, list_all}
use Rattle.std.specs.Str.{bytes_eq}
use Rattle.adr_value.specs.Same.{same_datum}
use Rattle.adr_value.specs.declared.datum.Datum.{Datum}
use Rattle.adr_value.specs.declared.datum.Datum.TheVariants.{Text}
use Rattle.adr_object.specs.declared.event.Target.{Target}
use Rattle.adr_object.specs.declared.event.Event.{Event}
use Rattle.adr_object.specs.declared.party.Program.{Program}
use Rattle.adr_object.specs.declared.party.Ven.{Ven}
use Rattle.adr_object.specs.declared.party.Resource.{Resource}

-- what a target list is held against
pub record Scene : Type 0 where
  pub program : Program
  pub event : Event
  pub ven : Ven
  pub resource : Resource

-- the value is a text equal to the name
abbrev pub is_name : Datum → List ℕ → Bool
is_name value name = same_datum value (Text name)

-- the list has the value under the type
abbrev pub has_value : List Target → List ℕ → Datum → Bool
has_value targets kind value = list_any (λ t. bytes_eq t.kind kind && list_any (same_datum value) t.values) targets

-- some event name equals the value; an event with no name matches none
abbrev pub is_event_name : Datum → Option (List ℕ) → Bool
is_event_name value (Some name) = is_name value name
is_event_name value None = false

-- one value under the type is matched
abbrev pub is_matched : Scene → List ℕ → Datum → Bool
is_matched scene kind value =
    if bytes_eq kind (codes "RESOURCE_NAME") then is_name value scene.resource.resource_name
    else if bytes_eq kind (codes "VEN_NAME") then is_name value scene.ven.ven_name
    else if bytes_eq kind (codes "EVENT_NAME") then is_event_name value scene.event.event_name
    else if bytes_eq kind (codes "PROGRAM_NAME") then is_name value scene.program.program_name
    else (has_value scene.resource.targets kind value || has_value scene.ven.targets kind value)

-- for each type in the list, some value under that type is matched
abbrev pub matches : List Target → Scene → Bool
matches targets scene =
    list_all (λ t. list_any (λ u. bytes_eq u.kind t.kind && list_any (is_matched scene t.kind) u.values) targets) targets

-- the event's own targets and its program's match
abbrev pub applies : Scene → Bool
applies scene = matches scene.event.targets scene && matches scene.program.targets scene
