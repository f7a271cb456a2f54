-- Texts, numbers, values maps and payloads: what is wrong with each, and what it stands for. What it stands for is
-- looked at only where nothing is wrong.
use Rattle.std.specs.Prelude.{ℕ, ◌^◌, ◌&&◌, ◌==◌, ℤ, pos, neg_ℤ, unsigned_abs, int_le, int_lt, List, [], ◌∷◌, ◌++◌, codes, Bool, false, is_some, unwrap_or, bytes_eq, if◌then◌else◌}
use Rattle.serde_json.specs.Data.{Data, null, boolean, number, string, array, object}
use Rattle.adr_value.specs.Names.{is_name}
use Rattle.adr_value.specs.Number.{Number as Decimal}
use Rattle.adr_value.specs.Payload.{type_of, shape_of}
use Rattle.adr_value.specs.Shapes.{has_shape}
use Rattle.adr_value.specs.declared.datum.Datum.{Datum}
use Rattle.adr_value.specs.declared.datum.Datum.TheVariants.{Number, Text, Truth, Point}
use Rattle.adr_value.specs.declared.payload.PayloadType.{PayloadType}
use Rattle.adr_refusal.specs.declared.refusal.Refusal.{Refusal}
use Rattle.adr_refusal.specs.declared.refusal.Refusal.TheVariants.{WrongType, BadText, BadPriority, BadShape}
use Rattle.adr_object.specs.Id.{is_id}
use Rattle.adr_object.specs.declared.event.Target.{Target}
use Rattle.adr_object.specs.declared.event.Payload.{Payload}
use Rattle.adr_read.specs.Looking.{member_at, the, after_nul, text_of, decimal_of}
use Rattle.adr_read.specs.Sets.{unless, of_kind, of_object, required, if_none, list_faults, list_in}

-- ---- texts

-- any text, also an empty one
abbrev pub text_faults : Data → List Refusal
text_faults d = of_kind (text_of d) (λ _. [])

-- 1 to 128 characters
abbrev pub name_faults : Data → List Refusal
name_faults d = of_kind (text_of d) (λ t. unless (is_name t) BadText)

-- 1 to 128 letters, digits, `_` and `-`
abbrev pub id_faults : Data → List Refusal
id_faults d = of_kind (text_of d) (λ t. unless (is_id t) BadText)

-- a text that has to be the wanted one
abbrev pub equal_faults : List ℕ → Refusal → Data → List Refusal
equal_faults wanted refusal d = of_kind (text_of d) (λ t. unless (bytes_eq t wanted) refusal)

abbrev pub text_in : Data → List ℕ
text_in d = unwrap_or (text_of d) []

-- a type of the payload table, or a private one
abbrev pub type_in : Data → PayloadType
type_in d = type_of (text_in d)

-- ---- numbers, by their exact value

abbrev pub number_faults : Data → List Refusal
number_faults d = of_kind (decimal_of d) (λ _. [])

abbrev pub number_in : Data → Decimal
number_in d = unwrap_or (decimal_of d) (record { coefficient = pos 0; scale = 0 })

-- whole, from 0 to 4,294,967,295
abbrev pub is_priority : Decimal → Bool
is_priority n = (n.scale == 0) && int_le (pos 0) n.coefficient && int_lt n.coefficient (pos (2 ^ 32))

abbrev pub priority_faults : Data → List Refusal
priority_faults d = of_kind (decimal_of d) (λ n. unless (is_priority n) BadPriority)

abbrev pub priority_in : Data → ℕ
priority_in d = unsigned_abs (number_in d).coefficient

-- whole, from -2 ^ 63 to 2 ^ 63 - 1
abbrev pub is_interval_id : Decimal → Bool
is_interval_id n = (n.scale == 0) && int_le (neg_ℤ (pos (2 ^ 63))) n.coefficient && int_lt n.coefficient (pos (2 ^ 63))

-- a number that is no interval's id is as one of another kind
abbrev pub interval_id_faults : Data → List Refusal
interval_id_faults d = of_kind (decimal_of d) (λ n. unless (is_interval_id n) WrongType)

abbrev pub interval_id_in : Data → ℤ
interval_id_in d = (number_in d).coefficient

-- ---- values

-- a number, a text, a truth value or a point, which is an object with the numbers `x` and `y`
abbrev pub datum_faults : Data → List Refusal
datum_faults null = WrongType ∷ []
datum_faults (boolean b) = []
datum_faults (number n) = WrongType ∷ []
datum_faults (string s) = if is_some (after_nul s) then number_faults (string s) else []
datum_faults (array ds) = WrongType ∷ []
datum_faults (object ms) =
    required number_faults (member_at (codes "x") (object ms)) ++ required number_faults (member_at (codes "y") (object ms))

abbrev pub datum_in : Data → Datum
datum_in null = Truth false
datum_in (boolean b) = Truth b
datum_in (number n) = Truth false
datum_in (string s) = if is_some (after_nul s) then Number (number_in (string s)) else Text s
datum_in (array ds) = Truth false
datum_in (object ms) = Point (number_in (the (codes "x") (object ms))) (number_in (the (codes "y") (object ms)))

-- ---- values maps

-- a type and at most 256 values
abbrev pub map_faults : Data → List Refusal
map_faults d =
    of_object d (required name_faults (member_at (codes "type") d) ++ required (list_faults 256 datum_faults) (member_at (codes "values") d))

abbrev pub values_in : Data → List Datum
values_in d = list_in (λ _. datum_in) (the (codes "values") d)

abbrev pub target_in : Data → Target
target_in d = record { kind = text_in (the (codes "type") d); values = values_in d }

-- at most 64 values maps
abbrev pub targets_faults : Data → List Refusal
targets_faults d = list_faults 64 map_faults d

abbrev pub targets_in : Data → List Target
targets_in d = list_in (λ _. target_in) d

-- ---- payloads

abbrev pub payload_in : Data → Payload
payload_in d = record { kind = type_in (the (codes "type") d); values = values_in d }

-- values that don't have the shape of their type
abbrev pub shape_faults : Payload → List Refusal
shape_faults p = unless (has_shape (shape_of p.kind) p.values) BadShape

-- the shape is judged only where type and values have no fault
abbrev pub payload_faults : Data → List Refusal
payload_faults d = if_none (map_faults d) (shape_faults (payload_in d))
