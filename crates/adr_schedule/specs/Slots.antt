-- Values in slots, and the slot of each place.
use Rattle.std.specs.Prelude.{◌≡◌, ◌==◌, ℕ, Bool, true, List, [], ◌∷◌, slice_get, Option, Some}
use Rattle.std.specs.List.{list_any}
use Rattle.std.specs.Option.{option_and_then}
use Rattle.adr_shared.specs.Map.{lookup}

-- the value in the slot
abbrev pub in_slot : {G : Type 0} → List (List ℕ × G) → ℕ → Option G
in_slot values slot = lookup (slot ∷ []) values

-- the value in the slot of the place
abbrev pub value_at : {G : Type 0} → List ℕ → List (List ℕ × G) → ℕ → Option G
value_at seats values place = option_and_then (λ slot. in_slot values slot) (slice_get seats place)

-- there is a value in the slot
abbrev pub HasSlot : {G : Type 0} → List (List ℕ × G) → ℕ → Type 0
HasSlot {G} values slot = (g : G) × (in_slot values slot ≡ Some g)

-- some place has the slot
abbrev pub is_taken : List ℕ → ℕ → Bool
is_taken seats slot = list_any (λ s. s == slot) seats

-- each place's slot has a value, and each slot with a value is some place's
pub record AreSeated {G : Type 0} (seats : List ℕ) (values : List (List ℕ × G)) : Type 0 where
  pub held : (place slot : ℕ) → slice_get seats place ≡ Some slot → (g : G) × (in_slot values slot ≡ Some g)
  pub taken : (slot : ℕ) (g : G) → in_slot values slot ≡ Some g → is_taken seats slot ≡ true
