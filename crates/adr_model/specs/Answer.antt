-- What a query answers, from what governs alone, down to the bytes.
use Rattle.std.specs.Prelude.{◌≡◌, ◌≢◌, ℕ, ◌/◌, ◌%◌, ◌+◌, ◌&&◌, ◌||◌, ◌==◌, nat_lt, ℤ, ◌≤ℤ◌, ◌<ℤ◌, int_lt, Bool, true, false, not, List, [], ◌∷◌, ◌++◌, filter, flat_map, Option, Some, None, is_some, Result, Ok, Err, if◌then◌else◌, codes, find, slice_get}
use Rattle.std.specs.Option.{option_and_then, option_map}
use Rattle.std.specs.Fmt.{decimal, signed_decimal}
use Rattle.adr_value.specs.Same.{same_type}
use Rattle.adr_value.specs.Text.{number_text}
use Rattle.adr_value.specs.declared.datum.Datum.{Datum}
use Rattle.adr_value.specs.declared.datum.Datum.TheVariants.{Number, Text, Truth, Point}
use Rattle.adr_value.specs.declared.payload.PayloadType.{PayloadType}
use Rattle.adr_refusal.specs.declared.refusal.Refusal.{Refusal}
use Rattle.adr_refusal.specs.declared.refusal.Refusal.TheVariants.{UnknownResource}
use Rattle.adr_time.specs.Text.{moment_text}
use Rattle.adr_time.specs.declared.span.End.{End}
use Rattle.adr_time.specs.declared.span.End.TheVariants.{At, Endless}
use Rattle.adr_object.specs.declared.event.Payload.{Payload}
use Rattle.adr_model.specs.declared.entry.Entry.{Entry}
use Rattle.adr_model.specs.declared.entry.Tie.{Tie}
use Rattle.adr_model.specs.declared.timeline.Winner.{Winner}
use Rattle.adr_model.specs.declared.written.Written.{Written}
use Rattle.adr_model.specs.Book.{Book, resource_by}
use Rattle.adr_model.specs.Governor.{ranked_entries, winner_at, governs}

-- ---- until when

abbrev pub same_winner : Option Winner → Option Winner → Bool
same_winner None None = true
same_winner None (Some b) = false
same_winner (Some a) None = false
same_winner (Some a) (Some b) = (a.written == b.written) && (a.place == b.place)

abbrev pub end_instants : End → List ℤ
end_instants (At t) = t ∷ []
end_instants Endless = []

-- the instants at which an entry starts or ends
abbrev pub bounds : List Entry → List ℤ
bounds entries = flat_map (λ e. e.span.start ∷ end_instants e.span.end) entries

-- another entry wins at the later instant u than at t
abbrev pub is_change : List Entry → ℤ → ℤ → Bool
is_change entries t u = int_lt t u && not (same_winner (winner_at entries u) (winner_at entries t))

abbrev pub changes : List Entry → ℤ → List ℤ
changes entries t = filter (is_change entries t) (bounds entries)

abbrev pub earlier_of : ℤ → End → End
earlier_of t (At u) = if int_lt u t then At u else At t
earlier_of t Endless = At t

-- the earliest of the instants, or no end
abbrev pub earliest : List ℤ → End
earliest [] = Endless
earliest (t ∷ ts) = earlier_of t (earliest ts)

-- the least later instant whose governor differs from that at t, or no end
unfoldable pub until : Tie → Book → List ℕ → PayloadType → ℤ → End
until tie book id payload_type t = earliest (changes (ranked_entries tie book id payload_type) t)

-- the same in other words, of any governor
abbrev pub IsUntil : (ℤ → Option Winner) → ℤ → End → Type 0
IsUntil governor t (At u) = (t <ℤ u) × (governor u ≢ governor t) × ((v : ℤ) → t ≤ℤ v → v <ℤ u → governor v ≡ governor t)
IsUntil governor t Endless = (v : ℤ) → t ≤ℤ v → governor v ≡ governor t

-- ---- what is shown

-- the event's id, the interval's id, and the values of its first payload of the type
pub record Shown : Type 0 where
  pub event : List ℕ
  pub interval : ℤ
  pub values : List Datum

abbrev pub event_written : Book → ℕ → Option Written
event_written book written = find (λ w. written == w.written) book.events

abbrev pub first_payload : PayloadType → List Payload → Option Payload
first_payload payload_type payloads = find (λ p. same_type p.kind payload_type) payloads

abbrev pub shown_in : PayloadType → ℕ → Written → Option Shown
shown_in payload_type place w =
    option_and_then (λ i. option_map
    (λ p. record { event = w.event.id; interval = i.id; values = p.values })
    (first_payload payload_type i.payloads))
    (slice_get w.event.intervals place)

-- what a winner shows of the type
abbrev pub shown_of : Book → PayloadType → Winner → Option Shown
shown_of book payload_type winner = option_and_then (shown_in payload_type winner.place) (event_written book winner.written)

-- what governs shows
abbrev pub shown : Tie → Book → List ℕ → PayloadType → ℤ → Option Shown
shown tie book id payload_type t = option_and_then (shown_of book payload_type) (governs tie book id payload_type t)

-- ---- the bytes

-- a hexadecimal digit, in lower case
abbrev pub hex_digit : ℕ → ℕ
hex_digit n = if nat_lt n 10 then 48 + n else 87 + n

-- in quotes, `"` and `\` have a backslash before them, and a byte below a space is `\u00` and its two digits
abbrev pub quoted_byte : ℕ → List ℕ
quoted_byte b =
    if (b == 34) || (b == 92) then 92 ∷ b ∷ []
    else (if nat_lt b 32 then codes "\\u00" ++ hex_digit (b / 16) ∷ hex_digit (b % 16) ∷ []
    else b ∷ [])

abbrev pub quoted : List ℕ → List ℕ
quoted text = codes "\"" ++ flat_map quoted_byte text ++ codes "\""

-- `17`, `"a b"`, `true`, `(1,2.5)`
abbrev pub datum_text : Datum → List ℕ
datum_text (Number n) = number_text n
datum_text (Text t) = quoted t
datum_text (Truth true) = codes "true"
datum_text (Truth false) = codes "false"
datum_text (Point x y) = codes "(" ++ number_text x ++ codes "," ++ number_text y ++ codes ")"

-- each value follows a space
abbrev pub values_text : List Datum → List ℕ
values_text values = codes "values" ++ flat_map (λ v. codes " " ++ datum_text v) values

abbrev pub end_text : End → List ℕ
end_text (At t) = moment_text t
end_text Endless = codes "end"

-- `event e1 interval 0 until 2024-01-01T01:00:00Z values 17`, or `none until end`
abbrev pub state_text : Option Shown → End → List ℕ
state_text None end = codes "none until " ++ end_text end
state_text (Some s) end =
    codes "event " ++ s.event ++ codes " interval " ++ signed_decimal s.interval ++ codes " until " ++ end_text end ++ codes " " ++ values_text s.values

-- `version 4 ` and the state at the instant, with a line feed
abbrev pub at_text : Tie → Book → List ℕ → PayloadType → ℤ → List ℕ
at_text tie book id payload_type t =
    codes "version " ++ decimal book.version ++ codes " " ++ state_text (shown tie book id payload_type t) (until tie book id payload_type t) ++ codes "\n"

-- the answer to `at`: a resource that is not there is refused
unfoldable pub at : Tie → Book → List ℕ → PayloadType → ℤ → Result (List ℕ) Refusal
at tie book id payload_type t = if is_some (resource_by book id) then Ok (at_text tie book id payload_type t) else Err UnknownResource
