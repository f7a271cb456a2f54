-- A place that comes, goes or has other writes.
use Rattle.std.specs.Prelude.{◌≡◌, ◌<◌, ◌==◌, ◌+◌, ◌⊎◌, ℕ, true, false, List, length, nat_lt, slice_get, Some, if◌then◌else◌}
use Rattle.adr_model.specs.declared.entry.Tie.{Tie}
use Rattle.adr_model.specs.declared.written.Written.{Written}
use Rattle.adr_lines.specs.declared.grouped.TypeEntries.{TypeEntries}
use Rattle.adr_lines.specs.Grouped.{entries_under}
use Rattle.adr_lines.specs.Right.{has_number}
use Rattle.adr_lines.specs.declared.indexes.Indexes.{Indexes}
use Rattle.adr_lines.specs.Exchange.{IsIndexOf}
use Rattle.adr_group.specs.Group.{AreWindowsOf, Lines}
use Rattle.adr_schedule.specs.Seating.{group_at, has_at, AreRight, Seating}
use Rattle.adr_schedule.specs.Slots.{in_slot, is_taken}

-- there is one more place, last, with no writes
pub record HasPlace (old new : Seating) : Type 0 where
  pub count : length new.seats ≡ length old.seats + 1
  pub others : (place : ℕ) (g : Lines) → group_at old place ≡ Some g → group_at new place ≡ Some g
  pub none : (n : ℕ) → has_at new (length old.seats) n ≡ false

-- the place is gone, and those after it have moved down
pub record LacksPlace (place : ℕ) (old new : Seating) : Type 0 where
  pub count : length new.seats + 1 ≡ length old.seats
  pub others : (p : ℕ) → group_at new p ≡ group_at old (if nat_lt p place then p else p + 1)

-- the place has these writes, and all others are as they were
pub record IsRewritten (place : ℕ) (numbers : List ℕ) (old new : Seating) : Type 0 where
  pub count : length new.seats ≡ length old.seats
  pub writes : (p n : ℕ) → p < length old.seats → has_at new p n ≡ (if p == place then has_number numbers n else has_at old p n)

-- what was right of some events is right of them still
abbrev pub StaysRight : Seating → Seating → Type 0
StaysRight old new = (tie : Tie) (events : List Written) → AreRight tie events old → AreRight tie events new

-- and it is where the windows hold the entries of each indexed event on which the old writes of the place and the new ones differ
abbrev pub StaysRightInside : Indexes → List TypeEntries → ℕ → List ℕ → Seating → Seating → Type 0
StaysRightInside indexes windows place numbers old new =
    (tie : Tie) (events : List Written) → IsIndexOf tie events indexes
    → ((g : Lines) → group_at old place ≡ Some g → AreWindowsOf events g.writes numbers (entries_under windows))
    → AreRight tie events old → AreRight tie events new

-- some place has the slot, and its group these writes
abbrev pub IsSlotWith : Seating → List ℕ → ℕ → Type 0
IsSlotWith s numbers slot = (p : ℕ) × (g : Lines) × (slice_get s.seats p ≡ Some slot) × (in_slot s.groups slot ≡ Some g) × (g.writes ≡ numbers)

-- the place has this group, and all others are as they were
pub record IsPlaced (place : ℕ) (group : Lines) (old new : Seating) : Type 0 where
  pub count : length new.seats ≡ length old.seats
  pub here : group_at new place ≡ Some group
  pub others : (p : ℕ) → (p ≡ place → ⊥) → group_at new p ≡ group_at old p

-- the slot, which was free or had it already, has a value, and all others are as they were
pub record HasValue {G : Type 0} (seats : List ℕ) (slot : ℕ) (old new : List (List ℕ × G)) : Type 0 where
  pub here : (g : G) × (in_slot new slot ≡ Some g)
  pub grows : (s : ℕ) (g : G) → in_slot old s ≡ Some g → in_slot new s ≡ Some g
  pub fresh : (s : ℕ) (g : G) → in_slot new s ≡ Some g → (s ≡ slot) ⊎ (is_taken seats s ≡ true)
