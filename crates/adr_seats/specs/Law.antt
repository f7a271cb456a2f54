-- When all places of a slot are among some places.
use Rattle.std.specs.Prelude.{◌≡◌, ℕ, ◌==◌, Bool, false, true, List, [], ◌∷◌, Some, ⊤, ◌≤◌, length, filter}
use Rattle.std.specs.List.{list_any, range_with_len, slice_get}
use Rattle.std.specs.Option.{option_map_or}
use Rattle.adr_seats.specs.Seats.{members_of}

-- the place has the slot
abbrev pub has_slot : List ℕ → ℕ → ℕ → Bool
has_slot seats slot place = option_map_or (λ s. s == slot) (slice_get seats place) false

-- the place is one of the places
abbrev pub is_among : ℕ → List ℕ → Bool
is_among place places = list_any (λ q. q == place) places

-- no place stands twice
abbrev pub AreDistinct : List ℕ → Type 0
AreDistinct [] = ⊤
AreDistinct (p ∷ ps) = (is_among p ps ≡ false) × AreDistinct ps

-- where as many of some places have a slot as have it at all, each place that has it is one of them
abbrev pub AllOfASlot : Type 0
AllOfASlot =
    (seats : List ℕ) (slot : ℕ) (places : List ℕ) → AreDistinct places → length (filter (has_slot seats slot) places) ≡ members_of slot seats
    → (p : ℕ) → slice_get seats p ≡ Some slot → is_among p places ≡ true

-- no more of some places have a slot than have it at all
abbrev pub NoMoreThanAll : Type 0
NoMoreThanAll = (seats : List ℕ) (slot : ℕ) (places : List ℕ) → AreDistinct places → length (filter (has_slot seats slot) places) ≤ members_of slot seats

-- of places that are found in order none stands twice
abbrev pub FoundAreDistinct : Type 0
FoundAreDistinct = (test : ℕ → Bool) (first count : ℕ) → AreDistinct (filter test (range_with_len first count))
