-- The objects that the accepted edits left, each kind in order of creation.
use Rattle.std.specs.Prelude.{ℕ, List, [], Option, find}
use Rattle.std.specs.Option.{option_and_then, option_map}
use Rattle.std.specs.Str.{bytes_eq}
use Rattle.adr_object.specs.declared.event.Event.{Event}
use Rattle.adr_object.specs.declared.party.Program.{Program}
use Rattle.adr_object.specs.declared.party.Ven.{Ven}
use Rattle.adr_object.specs.declared.party.Resource.{Resource}
use Rattle.adr_model.specs.declared.written.Written.{Written}
use Rattle.adr_model.specs.Matching.{Scene}

-- the version is the number of accepted edits
pub record Book : Type 0 where
  pub version : ℕ
  pub programs : List Program
  pub vens : List Ven
  pub resources : List Resource
  pub events : List Written

abbrev pub empty : Book
empty = record { version = 0; programs = []; vens = []; resources = []; events = [] }

abbrev pub program_by : Book → List ℕ → Option Program
program_by book id = find (λ p. bytes_eq id p.id) book.programs

abbrev pub ven_by : Book → List ℕ → Option Ven
ven_by book id = find (λ v. bytes_eq id v.id) book.vens

abbrev pub resource_by : Book → List ℕ → Option Resource
resource_by book id = find (λ r. bytes_eq id r.id) book.resources

abbrev pub event_by : Book → List ℕ → Option Written
event_by book id = find (λ w. bytes_eq id w.event.id) book.events

-- the event and the resource with the program and the ven that they name
abbrev pub scene_of : Book → Event → Resource → Option Scene
scene_of book event resource =
    option_and_then (λ program. option_map
    (λ ven. record { program = program; event = event; ven = ven; resource = resource })
    (ven_by book resource.ven_id))
    (program_by book event.program_id)
