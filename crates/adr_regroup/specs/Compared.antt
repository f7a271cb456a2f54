-- How much repairs compare, by what they touch.
use Rattle.std.specs.Prelude.{◌≡◌, ◌≤◌, ◌+◌, ℕ, Bool, not, List, zero, suc, map, sum_by, slice_get, if◌then◌else◌}
use Rattle.std.specs.Option.{option_map_or}
use Rattle.adr_value.specs.declared.payload.PayloadType.{PayloadType}
use Rattle.adr_object.specs.declared.party.Resource.{Resource}
use Rattle.adr_model.specs.declared.entry.Tie.{Tie}
use Rattle.adr_model.specs.declared.touch.Touch.{Touch}
use Rattle.adr_model.specs.declared.written.Written.{Written}
use Rattle.adr_model.specs.Book.{Book}
use Rattle.adr_model.specs.Governor.{applies_to, entries_for, entries_of}
use Rattle.adr_model.specs.Lists.{In}
use Rattle.adr_model.specs.Rank.{ranked}
use Rattle.adr_model.specs.Touches.{touches_of}
use Rattle.adr_store.specs.Numbers.{by_number}
use Rattle.adr_timeline.specs.Build.{most_compared}
use Rattle.adr_lines.specs.declared.grouped.TypeEntries.{TypeEntries}
use Rattle.adr_lines.specs.Grouped.{entries_under, HaveOwnTypes}
use Rattle.adr_lines.specs.Right.{has_number}
use Rattle.adr_lines.specs.declared.indexes.Indexes.{Indexes}
use Rattle.adr_group.specs.Repair.{most_repaired}
use Rattle.adr_schedule.specs.Seating.{has_at, Seating}

-- to build what governs the resource and the type of the touch inside its window: k(2k + 1) comparisons, k being the
-- entries of the type, in the events that apply to the resource, that meet the window
abbrev pub most_compared_at : Book → Touch → ℕ
most_compared_at book touch = most_compared (entries_for book touch.resource touch.kind) touch.window

-- to build it for each of the touches
unfoldable pub most_compared_in : Book → List Touch → ℕ
most_compared_in book touches = sum_by (most_compared_at book) touches

-- ---- events on which writes differ

-- repair for those writes inside the entries of an event compares at most what the event costs
abbrev pub IsMostFor : Tie → List Written → Indexes → List ℕ → (Written → ℕ) → Type 0
IsMostFor tie events indexes writes cost =
    (w : Written) (groups : List TypeEntries) → In w events → HaveOwnTypes groups
    → ((k : PayloadType) → entries_under groups k ≡ map (ranked tie) (entries_of k w)) → most_repaired groups writes indexes ≤ cost w

-- the cost of the event of that number, unless the number is among the others
abbrev pub cost_unless : (Written → ℕ) → List Written → List ℕ → ℕ → ℕ
cost_unless cost events others n = if has_number others n then 0 else option_map_or cost (by_number events n) 0

-- the cost of the events of those numbers that are not among the others
abbrev pub cost_but : (Written → ℕ) → List Written → List ℕ → List ℕ → ℕ
cost_but cost events numbers others = sum_by (cost_unless cost events others) numbers

-- one of the two holds, and the other not
abbrev pub differ : Bool → Bool → Bool
differ a b = if a then not b else b

-- inside the windows of the events that apply to the resource and are not among the writes of the place, or are and don't apply
abbrev pub most_differing : Book → Seating → ℕ → Resource → ℕ
most_differing book s place r =
    sum_by (λ w. if differ (has_at s place w.written) (applies_to book r w) then most_compared_in book (touches_of r.id w) else 0) book.events

-- the same of the resource at the place
unfoldable pub most_reseated_at : Book → Seating → ℕ → ℕ
most_reseated_at book s place = option_map_or (most_differing book s place) (slice_get book.resources place) 0

-- the sum of all numbers' costs before that one
abbrev pub sum_before : (ℕ → ℕ) → ℕ → ℕ
sum_before cost zero = 0
sum_before cost (suc n) = sum_before cost n + cost n

-- of the numbers before that one none stands twice: they cost no more than all of them
abbrev pub StandOnce : List ℕ → ℕ → Type 0
StandOnce numbers reached = (cost : ℕ → ℕ) → sum_by cost numbers ≤ sum_before cost reached
