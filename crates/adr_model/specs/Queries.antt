-- What the queries answer: `list`, `roll` and `types`, from what governs alone, down to the bytes.
use Rattle.std.specs.Prelude.{ℕ, ℤ, pos, ◌-ℤ◌, ◌&&◌, ◌||◌, ◌==◌, nat_le, int_lt, int_le, Bool, not, List, [], ◌∷◌, ◌++◌, map, filter, flat_map, is_some, Result, Ok, Err, if◌then◌else◌, codes}
use Rattle.std.specs.Ordering.{int_eq, int_cmp, nat_cmp, is_eq, is_lt}
use Rattle.std.specs.declared.cmp.Ordering.{Ordering}
use Rattle.std.specs.Cmp.Lexicographic.{slice_cmp}
use Rattle.std.specs.List.{list_all, list_any}
use Rattle.std.specs.Option.{option_map_or}
use Rattle.std.specs.Fmt.{decimal, signed_decimal}
use Rattle.adr_value.specs.Payload.{name_of, table}
use Rattle.adr_value.specs.declared.payload.PayloadType.{PayloadType}
use Rattle.adr_value.specs.declared.payload.PayloadType.TheVariants.{Private}
use Rattle.adr_refusal.specs.declared.refusal.Refusal.{Refusal}
use Rattle.adr_refusal.specs.declared.refusal.Refusal.TheVariants.{BadWindow, UnknownResource}
use Rattle.adr_time.specs.Text.{moment_text}
use Rattle.adr_time.specs.declared.span.End.{End}
use Rattle.adr_time.specs.declared.span.End.TheVariants.{At, Endless}
use Rattle.adr_model.specs.declared.entry.Tie.{Tie}
use Rattle.adr_model.specs.Answer.{Shown, at, bounds, same_winner, shown, state_text, until, quoted, values_text}
use Rattle.adr_model.specs.Book.{Book, resource_by}
use Rattle.adr_model.specs.Governor.{entries_for, governs}

-- ---- order

-- x in its place in a list in order, in which each stands once
abbrev pub put_in_order : {X : Type 0} → (X → X → Ordering) → X → List X → List X
put_in_order cmp x [] = x ∷ []
put_in_order cmp x (y ∷ ys) =
    if is_lt (cmp x y) then x ∷ y ∷ ys else (if is_eq (cmp x y) then y ∷ ys else y ∷ put_in_order cmp x ys)

-- what the list has, each once and in order
abbrev pub in_order : {X : Type 0} → (X → X → Ordering) → List X → List X
in_order cmp [] = []
in_order cmp (x ∷ xs) = put_in_order cmp x (in_order cmp xs)

-- ---- `list`: the segments of a window

-- something governs at the instant, and it is the window's first or what governs differs from the instant before
abbrev pub begins : Tie → Book → List ℕ → PayloadType → ℤ → ℤ → Bool
begins tie book id payload_type from u =
    is_some (governs tie book id payload_type u)
    && (int_eq u from || not (same_winner (governs tie book id payload_type (u -ℤ pos 1)) (governs tie book id payload_type u)))

-- the instants of the window at which a segment begins, which are among its first and those where entries start or end
unfoldable pub beginnings : Tie → Book → List ℕ → PayloadType → ℤ → ℤ → List ℤ
beginnings tie book id payload_type from to =
    filter (λ u. int_le from u && (int_lt u to && begins tie book id payload_type from u)) (in_order int_cmp (from ∷ bounds (entries_for book id payload_type)))

-- the end, or the window's if that is earlier
abbrev pub end_within : ℤ → End → ℤ
end_within to (At t) = if int_lt t to then t else to
end_within to Endless = to

-- `2024-01-01T00:00:00Z 2024-01-01T01:00:00Z event e1 interval 0 values 10` and a line feed
abbrev pub segment_text : ℤ → ℤ → Shown → List ℕ
segment_text start end s =
    moment_text start ++ codes " " ++ moment_text end ++ codes " event " ++ s.event ++ codes " interval " ++ signed_decimal s.interval
    ++ codes " " ++ values_text s.values ++ codes "\n"

-- the line of the segment that begins at an instant
abbrev pub segment_line : Tie → Book → List ℕ → PayloadType → ℤ → ℤ → List ℕ
segment_line tie book id payload_type to u = option_map_or (segment_text u (end_within to (until tie book id payload_type u))) (shown tie book id payload_type u) []

-- the first line and the last of an answer of several
abbrev pub in_lines : Book → List ℕ → List ℕ
in_lines book lines = codes "version " ++ decimal book.version ++ codes "\n" ++ lines ++ codes ".\n"

abbrev pub list_text : Tie → Book → List ℕ → PayloadType → ℤ → ℤ → List ℕ
list_text tie book id payload_type from to = in_lines book (flat_map (segment_line tie book id payload_type to) (beginnings tie book id payload_type from to))

-- the answer to `list`: a window that does not begin before it ends is refused, and then a resource that is not there
unfoldable pub list : Tie → Book → List ℕ → PayloadType → ℤ → ℤ → Result (List ℕ) Refusal
list tie book id payload_type from to =
    if int_lt from to then (if is_some (resource_by book id) then Ok (list_text tie book id payload_type from to) else Err UnknownResource)
    else Err BadWindow

-- ---- `roll`: the state of each resource

-- `r1 event e1 interval 0 until end values 10` and a line feed
abbrev pub roll_line : Tie → Book → PayloadType → ℤ → List ℕ → List ℕ
roll_line tie book payload_type t id = id ++ codes " " ++ state_text (shown tie book id payload_type t) (until tie book id payload_type t) ++ codes "\n"

-- the answer to `roll`, in order of creation: nothing is refused
unfoldable pub roll : Tie → Book → PayloadType → ℤ → Result (List ℕ) Refusal
roll tie book payload_type t = Ok (in_lines book (flat_map (λ r. roll_line tie book payload_type t r.id) book.resources))

-- ---- `types`: what governs a resource at some time

-- something of the type governs at the start of some interval
abbrev pub is_governed : Tie → Book → List ℕ → PayloadType → Bool
is_governed tie book id payload_type = list_any (λ e. is_some (governs tie book id payload_type e.span.start)) (entries_for book id payload_type)

abbrev pub private_name : PayloadType → List (List ℕ)
private_name (Private name) = name ∷ []
private_name _ = []

-- the names of the private types that events carry
abbrev pub private_names : Book → List (List ℕ)
private_names book = flat_map (λ w. flat_map (λ i. flat_map (λ p. private_name p.kind) i.payloads) w.event.intervals) book.events

-- the types of the table in its order, then the private ones by the bytes of their names
abbrev pub types_in_order : Book → List PayloadType
types_in_order book = map (λ r. r.case) table ++ map Private (in_order (slice_cmp nat_cmp) (private_names book))

-- those of them that govern the resource at some instant
unfoldable pub governing_types : Tie → Book → List ℕ → List PayloadType
governing_types tie book id = filter (is_governed tie book id) (types_in_order book)

-- a byte from `!` to `~` that is no quotation mark
abbrev pub is_bare_byte : ℕ → Bool
is_bare_byte b = nat_le 33 b && (nat_le b 126 && not (b == 34))

-- bare where all its characters may stand bare, else in quotes
abbrev pub type_text : List ℕ → List ℕ
type_text name = if list_all is_bare_byte name then name else quoted name

abbrev pub types_text : Tie → Book → List ℕ → List ℕ
types_text tie book id = in_lines book (flat_map (λ payload_type. type_text (name_of payload_type) ++ codes "\n") (governing_types tie book id))

-- the answer to `types`: a resource that is not there is refused
unfoldable pub types : Tie → Book → List ℕ → Result (List ℕ) Refusal
types tie book id = if is_some (resource_by book id) then Ok (types_text tie book id) else Err UnknownResource

-- ---- all queries

pub data Query : Type 0 where
  at_query : List ℕ → PayloadType → ℤ → Query
  list_query : List ℕ → PayloadType → ℤ → ℤ → Query
  roll_query : PayloadType → ℤ → Query
  types_query : List ℕ → Query

-- the answer to a query under a rule for ties
abbrev pub answer : Tie → Book → Query → Result (List ℕ) Refusal
answer tie book (at_query id payload_type t) = at tie book id payload_type t
answer tie book (list_query id payload_type from to) = list tie book id payload_type from to
answer tie book (roll_query payload_type t) = roll tie book payload_type t
answer tie book (types_query id) = types tie book id
