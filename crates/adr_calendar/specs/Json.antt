-- Values as JSON.
use Rattle.std.specs.Prelude.{ℕ, true, false, List, [], ◌∷◌, ◌++◌, flat_map, codes}
use Rattle.adr_value.specs.Text.{number_text}
use Rattle.adr_value.specs.declared.datum.Datum.{Datum}
use Rattle.adr_value.specs.declared.datum.Datum.TheVariants.{Number, Text, Truth, Point}
use Rattle.adr_model.specs.Answer.{quoted}

-- `17`, `"a b"`, `true`, `{"x":1,"y":2.5}`
abbrev pub json_value : Datum → List ℕ
json_value (Number n) = number_text n
json_value (Text t) = quoted t
json_value (Truth true) = codes "true"
json_value (Truth false) = codes "false"
json_value (Point x y) = codes "{\"x\":" ++ number_text x ++ codes ",\"y\":" ++ number_text y ++ codes "}"

-- with a comma between two of them
abbrev pub json_elements : List Datum → List ℕ
json_elements [] = []
json_elements (v ∷ vs) = json_value v ++ flat_map (λ w. codes "," ++ json_value w) vs

-- `[17,"a b"]`
abbrev pub json_array : List Datum → List ℕ
json_array values = codes "[" ++ json_elements values ++ codes "]"
