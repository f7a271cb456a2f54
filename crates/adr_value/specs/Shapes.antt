-- What the values of a payload type must be.
use Rattle.std.specs.Prelude.{pos, int_le, ◌==◌, ◌&&◌, not, Bool, true, false, List, [], ◌∷◌, length}
use Rattle.std.specs.List.{list_all}
use Rattle.adr_value.specs.declared.datum.Datum.{Datum}
use Rattle.adr_value.specs.declared.datum.Datum.TheVariants.{Number, Text, Truth, Point}
use Rattle.adr_value.specs.declared.payload.Shape.{Shape}
use Rattle.adr_value.specs.declared.payload.Shape.TheVariants.{Whole, Amount, Points, Notes, Any}

-- which case a value is
abbrev pub is_number : Datum → Bool
is_number (Number n) = true
is_number (Text t) = false
is_number (Truth b) = false
is_number (Point x y) = false

abbrev pub is_note : Datum → Bool
is_note (Number n) = false
is_note (Text t) = true
is_note (Truth b) = false
is_note (Point x y) = false

abbrev pub is_point : Datum → Bool
is_point (Number n) = false
is_point (Text t) = false
is_point (Truth b) = false
is_point (Point x y) = true

-- a whole number of at least 0
abbrev pub is_whole : Datum → Bool
is_whole (Number n) = (n.scale == 0) && int_le (pos 0) n.coefficient
is_whole (Text t) = false
is_whole (Truth b) = false
is_whole (Point x y) = false

-- there is a first value, and it is whole
abbrev pub starts_whole : List Datum → Bool
starts_whole [] = false
starts_whole (v ∷ vs) = is_whole v

-- at least one value, and all of that kind
abbrev pub is_some_of : (Datum → Bool) → List Datum → Bool
is_some_of test values = not (length values == 0) && list_all test values

-- Whole: a first whole number of at least 0; Amount: numbers; Points: points; Notes: texts, perhaps none
abbrev pub has_shape : Shape → List Datum → Bool
has_shape Whole values = starts_whole values
has_shape Amount values = is_some_of is_number values
has_shape Points values = is_some_of is_point values
has_shape Notes values = list_all is_note values
has_shape Any values = true
