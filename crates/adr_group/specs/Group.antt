-- Timelines by payload type, of resources to which the same events apply.
use Rattle.std.specs.Prelude.{◌≡◌, ◌≢◌, ◌⊎◌, ◌↔◌, ℕ, ℤ, true, false, List, [], Option, None}
use Rattle.std.specs.List.{AllByRecursion}
use Rattle.std.specs.Option.{option_map_or}
use Rattle.adr_value.specs.Payload.{name_of}
use Rattle.adr_value.specs.declared.payload.PayloadType.{PayloadType}
use Rattle.adr_shared.specs.Map.{lookup}
use Rattle.adr_model.specs.declared.entry.Entry.{Entry}
use Rattle.adr_model.specs.declared.entry.Tie.{Tie}
use Rattle.adr_model.specs.declared.timeline.Segment.{Segment}
use Rattle.adr_model.specs.declared.timeline.Winner.{Winner}
use Rattle.adr_model.specs.declared.written.Written.{Written}
use Rattle.adr_model.specs.Governor.{entries_of}
use Rattle.adr_model.specs.Lists.{In}
use Rattle.adr_model.specs.Timeline.{shows}
use Rattle.adr_lines.specs.Grouped.{any_covers_at}
use Rattle.adr_lines.specs.Laws.{AgreeAt}
use Rattle.adr_lines.specs.Right.{among, has_number, winner_under}

-- the numbers of the writes that apply, and the timelines by the names of their types
pub record Lines : Type 0 where
  pub writes : List ℕ
  pub lines : List (List ℕ × List Segment)

-- what the timeline of the type shows at the instant; where there is none, nothing
abbrev pub shown_in : List (List ℕ × List Segment) → PayloadType → ℤ → Option Winner
shown_in lines payload_type t = option_map_or (λ line. shows line t) (lookup (name_of payload_type) lines) None

-- each timeline shows something
abbrev pub AllShow : List (List ℕ × List Segment) → Type 0
AllShow lines = AllByRecursion (λ l. l.1 ≢ []) lines

-- the timelines show what wins among the events of the writes
abbrev pub IsRightOf : Tie → List Written → Lines → Type 0
IsRightOf tie events group = (k : PayloadType) (t : ℤ) → shown_in group.lines k t ≡ winner_under tie (among events group.writes k) t

-- each event on which the writes differ has its entries among the windows
abbrev pub AreWindowsOf : List Written → List ℕ → List ℕ → (PayloadType → List Entry) → Type 0
AreWindowsOf events writes others windows =
    (w : Written) → In w events
    → (has_number writes w.written ≡ has_number others w.written)
    ⊎ ((k : PayloadType) (t : ℤ) → any_covers_at (entries_of k w) t ≡ true → any_covers_at (windows k) t ≡ true)

-- where no window covers, the writes agree on what competes: each of its events is an old one of the writes just where
-- it is a new one of the others
abbrev pub AgreeOutside : List Written → List Written → List ℕ → List ℕ → (PayloadType → List Entry) → Type 0
AgreeOutside old new writes others windows =
    (k : PayloadType) (t : ℤ) → any_covers_at (windows k) t ≡ false → AgreeAt old new writes others k t

-- what is right of some events is right of others among which those of its writes are the same
abbrev pub RightMoves : Tie → Type 0
RightMoves tie =
    (old new : List Written) (group : Lines)
    → ((w : Written) → has_number group.writes w.written ≡ true → In w old ↔ In w new)
    → IsRightOf tie old group → IsRightOf tie new group
