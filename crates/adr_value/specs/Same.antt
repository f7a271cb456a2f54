-- When two values or two payload types are the same.
use Rattle.std.specs.Prelude.{◌==◌, ◌&&◌, Bool, true, false}
use Rattle.std.specs.Ordering.{int_eq}
use Rattle.std.specs.Str.{bytes_eq}
use Rattle.adr_value.specs.Number.{Number as Decimal}
use Rattle.adr_value.specs.Payload.{name_of}
use Rattle.adr_value.specs.declared.datum.Datum.{Datum}
use Rattle.adr_value.specs.declared.datum.Datum.TheVariants.{Number, Text, Truth, Point}
use Rattle.adr_value.specs.declared.payload.PayloadType.{PayloadType}

-- two types are the same where their names are
abbrev pub same_type : PayloadType → PayloadType → Bool
same_type a b = bytes_eq (name_of a) (name_of b)

-- two decimals are the same where their forms are
abbrev pub same_decimal : Decimal → Decimal → Bool
same_decimal a b = int_eq a.coefficient b.coefficient && (a.scale == b.scale)

-- numbers are equal as decimals, texts as characters, truth values as such, points by both numbers
abbrev pub same_datum : Datum → Datum → Bool
same_datum (Number a) (Number b) = same_decimal a b
same_datum (Text a) (Text b) = bytes_eq a b
same_datum (Truth true) (Truth b) = b
same_datum (Truth false) (Truth true) = false
same_datum (Truth false) (Truth false) = true
same_datum (Point ax ay) (Point bx by) = same_decimal ax bx && same_decimal ay by
same_datum _ _ = false
