-- Whether places are all those that have their slots.
use Rattle.std.specs.Prelude.{◌≡◌, ◌⊎◌, ◌+◌, ◌<◌, ℕ, true, List, [], ◌∷◌, length, slice_get, sum_by, is_some, Some, ⊤}
use Rattle.adr_seats.specs.Law.{AreDistinct}
use Rattle.adr_seats.specs.Seats.{members_of}
use Rattle.adr_schedule.specs.declared.tally.SlotTally.{SlotTally}
use Rattle.adr_schedule.specs.Moves.{is_among}
use Rattle.adr_schedule.specs.Slots.{in_slot, is_taken}

-- a place is one of these just where its slot is one of those, and each of those slots is some place's
pub record AreAllOf (seats places slots : List ℕ) : Type 0 where
  pub each : (place slot : ℕ) → slice_get seats place ≡ Some slot → is_among slots slot ≡ is_among places place
  pub taken : (slot : ℕ) → is_among slots slot ≡ true → is_taken seats slot ≡ true

-- each place but for the rest has a slot that is there once; and so many places are left beyond all that have one of those
pub record IsTallied (places rest seats : List ℕ) (tally : SlotTally) : Type 0 where
  pub once : AreDistinct tally.slots.items
  pub taken : (slot : ℕ) → is_among tally.slots.items slot ≡ true → is_taken seats slot ≡ true
  pub count : (left : ℕ) → tally.left ≡ Some left → left + sum_by (λ s. members_of s seats) tally.slots.items ≡ length places
  pub found : (left : ℕ) → tally.left ≡ Some left → (place : ℕ) → is_among places place ≡ true
      → (is_among rest place ≡ true) ⊎ ((slot : ℕ) × (slice_get seats place ≡ Some slot) × (is_among tally.slots.items slot ≡ true))

-- the slots of the tally are those that were seen
abbrev pub HasSeen : List (List ℕ × ℕ) → SlotTally → Type 0
HasSeen seen tally = (slot : ℕ) → is_among tally.slots.items slot ≡ is_some (in_slot seen slot)

-- the first of the places, if there is one, is above this
abbrev pub IsBelowFirst : ℕ → List ℕ → Type 0
IsBelowFirst place [] = ⊤
IsBelowFirst place (next ∷ later) = place < next

-- each place is above the one before it
abbrev pub AreRising : List ℕ → Type 0
AreRising [] = ⊤
AreRising (place ∷ later) = IsBelowFirst place later × AreRising later
