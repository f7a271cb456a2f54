-- The object that a body spells, or the least of its faults.
use Rattle.std.specs.Prelude.{ℕ, ℤ, List, Option, Some, None, is_some, Result, Ok, Err, if◌then◌else◌}
use Rattle.std.specs.Str.{is_utf8}
use Rattle.serde_json.specs.Data.{Data}
use Rattle.serde_json.specs.Find.{as_object}
use Rattle.serde_json.specs.Read.{read}
use Rattle.adr_refusal.specs.Answer.{result_and_then}
use Rattle.adr_refusal.specs.Faults.{judged}
use Rattle.adr_value.specs.Limits.{Limits, limits}
use Rattle.adr_value.specs.Shield.{shield_of}
use Rattle.adr_refusal.specs.declared.refusal.Refusal.{Refusal}
use Rattle.adr_refusal.specs.declared.refusal.Refusal.TheVariants.{BadNumber, BadJson, NotObject}
use Rattle.adr_object.specs.declared.event.Event.{Event}
use Rattle.adr_object.specs.declared.party.Program.{Program}
use Rattle.adr_object.specs.declared.party.Ven.{Ven}
use Rattle.adr_object.specs.declared.party.Resource.{Resource}
use Rattle.adr_read.specs.Objects.{program_faults, program_in, ven_faults, ven_in, resource_faults, resource_in, event_faults_by, event_in}

-- the value of a text, where it is JSON: UTF-8 that `serde_json` reads
abbrev pub value_of : List ℕ → Option Data
value_of bytes = if is_utf8 bytes then read bytes else None

-- what is no JSON, and what is no object
abbrev pub object_or : Option Data → Result Data Refusal
object_or None = Err BadJson
object_or (Some d) = if is_some (as_object d) then Ok d else Err NotObject

abbrev pub object_of_shielded : Option (List ℕ) → Result Data Refusal
object_of_shielded None = Err BadNumber
object_of_shielded (Some shielded) = object_or (value_of shielded)

-- the JSON object of a body; in a number that doesn't fit, in what is no JSON and in what is no object nothing else is
-- looked at
unfoldable pub object_named : List ℕ → Result Data Refusal
object_named body = object_of_shielded (shield_of body)

-- the program, ven, resource or event of a body on a line with that id, or the least of the body's faults
unfoldable pub program_named : List ℕ → List ℕ → Result Program Refusal
program_named body id = result_and_then (λ d. judged (program_faults id d) (program_in id d)) (object_named body)

unfoldable pub ven_named : List ℕ → List ℕ → Result Ven Refusal
ven_named body id = result_and_then (λ d. judged (ven_faults id d) (ven_in id d)) (object_named body)

unfoldable pub resource_named : List ℕ → List ℕ → Result Resource Refusal
resource_named body id = result_and_then (λ d. judged (resource_faults id d) (resource_in id d)) (object_named body)

unfoldable pub event_named_by : Limits → ℤ → List ℕ → List ℕ → Result Event Refusal
event_named_by l now body id = result_and_then (λ d. judged (event_faults_by l id d) (event_in now id d)) (object_named body)

-- under the limits in force
abbrev pub event_named : ℤ → List ℕ → List ℕ → Result Event Refusal
event_named now body id = event_named_by limits now body id
