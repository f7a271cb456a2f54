-- The calendar of a window, as a timeline.
use Rattle.std.specs.Prelude.{◌≡◌, ℤ, ◌&&◌, int_le, int_lt, List, [], ℕ, flat_map, filter_map, slice_get, Option, None, MatchOption, if◌then◌else◌}
use Rattle.std.specs.Option.{option_map, option_map_or}
use Rattle.adr_value.specs.declared.payload.PayloadType.{PayloadType}
use Rattle.adr_time.specs.declared.span.End.TheVariants.{At, Endless}
use Rattle.adr_model.specs.declared.entry.Tie.{Tie}
use Rattle.adr_model.specs.declared.timeline.Segment.{Segment}
use Rattle.adr_model.specs.declared.timeline.Winner.{Winner}
use Rattle.adr_model.specs.Answer.{shown_of, until}
use Rattle.adr_model.specs.Book.{Book}
use Rattle.adr_model.specs.Governor.{governs}
use Rattle.adr_model.specs.Queries.{beginnings, end_within, governing_types, in_lines, list_text, segment_text}
use Rattle.adr_calendar.specs.declared.calendar.State.{State}
use Rattle.adr_model.specs.Timeline.{shows, IsCanonical}

-- the segment of what governs at an instant, up to the next change or the window's end
abbrev pub segment_from : Tie → Book → List ℕ → PayloadType → ℤ → ℤ → Option Segment
segment_from tie book id payload_type to u =
    option_map (λ w. record { start = u; end = At (end_within to (until tie book id payload_type u)); winner = w }) (governs tie book id payload_type u)

-- the segments of a window, one from each instant of it at which one begins
abbrev pub segments_within : Tie → Book → List ℕ → PayloadType → ℤ → ℤ → List Segment
segments_within tie book id payload_type from to = filter_map (segment_from tie book id payload_type to) (beginnings tie book id payload_type from to)

-- what governs at an instant of the window, and none outside it
abbrev pub governs_within : Tie → Book → List ℕ → PayloadType → ℤ → ℤ → ℤ → Option Winner
governs_within tie book id payload_type from to t = if int_le from t && int_lt t to then governs tie book id payload_type t else None

-- the timeline of the window: canonical, and at each instant it shows what governs there
pub record IsCalendar (tie : Tie) (book : Book) (id : List ℕ) (payload_type : PayloadType) (from to : ℤ) (timeline : List Segment) : Type 0 where
  pub canonical : IsCanonical timeline
  pub governed : (t : ℤ) → shows timeline t ≡ governs_within tie book id payload_type from to t

-- what governs at an instant, and the next instant at which another does
pub record IsStateAt (tie : Tie) (book : Book) (id : List ℕ) (payload_type : PayloadType) (t : ℤ) (state : State) : Type 0 where
  pub governed : state.governor ≡ governs tie book id payload_type t
  pub changed : state.until ≡ until tie book id payload_type t

-- nothing governs, and that stays so
abbrev pub nothing : State
nothing = record { governor = None; until = Endless }

-- the same of the resource at a place: nothing governs where there is none
abbrev pub IsStateOf : Tie → Book → ℕ → PayloadType → ℤ → State → Type 0
IsStateOf tie book place payload_type t state =
    MatchOption (slice_get book.resources place) (state ≡ nothing) (λ r. IsStateAt tie book r.id payload_type t state)

abbrev pub IsCalendarOf : Tie → Book → ℕ → PayloadType → ℤ → ℤ → List Segment → Type 0
IsCalendarOf tie book place payload_type from to timeline =
    MatchOption (slice_get book.resources place) (timeline ≡ []) (λ r. IsCalendar tie book r.id payload_type from to timeline)

abbrev pub types_of : Tie → Book → ℕ → List PayloadType
types_of tie book place = option_map_or (λ r. governing_types tie book r.id) (slice_get book.resources place) []

-- the line of a segment, cut to the window
abbrev pub line_of_segment : Book → PayloadType → ℤ → Segment → List ℕ
line_of_segment book payload_type to s = option_map_or (segment_text s.start (end_within to s.end)) (shown_of book payload_type s.winner) []

-- what `list` tells is a timeline, line by line
abbrev pub ListsTellTimelines : Type 0
ListsTellTimelines =
    (tie : Tie) (book : Book) (id : List ℕ) (payload_type : PayloadType) (from to : ℤ)
    → IsCalendar tie book id payload_type from to (segments_within tie book id payload_type from to)
    × (list_text tie book id payload_type from to ≡ in_lines book (flat_map (line_of_segment book payload_type to) (segments_within tie book id payload_type from to)))
