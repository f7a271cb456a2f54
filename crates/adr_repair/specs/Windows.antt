-- The windows of an edit: where it may change what governs a resource and a payload type.
use Rattle.std.specs.Prelude.{ℕ, ℤ, Bool, ◌&&◌, List, map, filter}
use Rattle.std.specs.List.{list_any}
use Rattle.std.specs.Str.{bytes_eq}
use Rattle.adr_value.specs.Same.{same_type}
use Rattle.adr_value.specs.declared.payload.PayloadType.{PayloadType}
use Rattle.adr_time.specs.Spans.{covers}
use Rattle.adr_time.specs.declared.span.Span.{Span}
use Rattle.adr_model.specs.declared.touch.Touch.{Touch}
use Rattle.adr_model.specs.Book.{Book}
use Rattle.adr_model.specs.Touches.{touches}

-- the touch is one of the resource and the type, and its window covers the instant
abbrev pub is_window_at : List ℕ → PayloadType → ℤ → Touch → Bool
is_window_at id payload_type t touch = bytes_eq id touch.resource && (same_type touch.kind payload_type && covers touch.window t)

-- some window between the two books does
abbrev pub is_touched : Book → Book → List ℕ → PayloadType → ℤ → Bool
is_touched old new id payload_type t = list_any (is_window_at id payload_type t) (touches old new)

-- the windows that a list of touches has for the resource and the type
abbrev pub windows_of : List ℕ → PayloadType → List Touch → List Span
windows_of id payload_type ts = map (λ x. x.window) (filter (λ x. bytes_eq id x.resource && same_type x.kind payload_type) ts)

-- one of the windows covers the instant
abbrev pub any_covers : List Span → ℤ → Bool
any_covers ws t = list_any (λ w. covers w t) ws
