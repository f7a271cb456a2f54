-- Places move to slots of other values.
use Rattle.std.specs.Prelude.{MatchOption, ◌≡◌, ◌==◌, ◌⊎◌, ℕ, Bool, true, false, List, [], ◌∷◌, length, set, slice_get, Some, None}
use Rattle.std.specs.List.{list_any}
use Rattle.std.specs.Option.{option_map_or}
use Rattle.adr_shared.specs.Map.{without}
use Rattle.adr_schedule.specs.Slots.{in_slot, is_taken, value_at, AreSeated}

-- the place is one of these
abbrev pub is_among : List ℕ → ℕ → Bool
is_among places place = list_any (λ p. p == place) places

-- where a place moves, its value stands to the old one as is asked, and elsewhere it is the same
pub record AreMoved {G : Type 0} (P : G → G → Type 0) (moves : ℕ → Bool) (seats : List ℕ) (values : List (List ℕ × G)) (others : List ℕ) (after : List (List ℕ × G)) : Type 0 where
  pub count : length others ≡ length seats
  pub now : (place : ℕ) (g : G) → value_at seats values place ≡ Some g
      → (h : G) × (value_at others after place ≡ Some h) × (moves place ≡ true → P g h) × (moves place ≡ false → g ≡ h)

-- places are on the move: where the members of a slot go, what they find there stands to what they had as is asked, and they stay there
pub record AreMoving {G : Type 0} (P : G → G → Type 0) (seats : List ℕ) (values : List (List ℕ × G)) (slots : List (List ℕ × ℕ)) : Type 0 where
  pub seated : AreSeated seats values
  pub goes : (s t : ℕ) (g : G) → in_slot slots s ≡ Some t → in_slot values s ≡ Some g → (h : G) × (in_slot values t ≡ Some h) × P g h
  pub stays : (s t : ℕ) → in_slot slots s ≡ Some t → in_slot slots t ≡ Some t

-- the slot where the members of a slot go is known, and only it may be no place's yet
pub record IsNext {G : Type 0} (P : G → G → Type 0) (seats : List ℕ) (values : List (List ℕ × G)) (after : List (List ℕ × G)) (slots : List (List ℕ × ℕ)) (slot next : ℕ) : Type 0 where
  pub grows : (s : ℕ) (g : G) → in_slot values s ≡ Some g → in_slot after s ≡ Some g
  pub fresh : (s : ℕ) (g : G) → in_slot after s ≡ Some g → (s ≡ next) ⊎ (is_taken seats s ≡ true)
  pub goes : (s t : ℕ) (g : G) → in_slot slots s ≡ Some t → in_slot after s ≡ Some g → (h : G) × (in_slot after t ≡ Some h) × P g h
  pub stays : (s t : ℕ) → in_slot slots s ≡ Some t → in_slot slots t ≡ Some t
  pub known : in_slot slots slot ≡ Some next

-- the place has the next slot, and where no place has its old one that has no value
abbrev pub IsSat : {G : Type 0} → List ℕ → ℕ → ℕ → ℕ → List (List ℕ × G) → List ℕ → List (List ℕ × G) → Type 0
IsSat seats place slot next values others after =
    ((next ≡ slot) × (others ≡ seats) × (after ≡ values))
    ⊎ ((next ≡ slot → ⊥) × (others ≡ set seats place next)
    × (((is_taken others slot ≡ true) × (after ≡ values)) ⊎ ((is_taken others slot ≡ false) × (after ≡ without (slot ∷ []) values))))

-- ---- what is asked for where places move

-- by the value of the place
abbrev pub asked_at : {G : Type 0} → (G → ℕ) → List ℕ → List (List ℕ × G) → ℕ → ℕ
asked_at cost seats values place = option_map_or cost (value_at seats values place) 0

-- a slot of which it is not known where its members go has the value that it had, and it was not known before
abbrev pub KeepsUnknown : {G : Type 0} → List (List ℕ × G) → List (List ℕ × ℕ) → List (List ℕ × G) → List (List ℕ × ℕ) → Type 0
KeepsUnknown values slots after later = (slot : ℕ) → in_slot later slot ≡ None → (in_slot slots slot ≡ None) × (in_slot after slot ≡ in_slot values slot)

-- and a place that has such a slot had it
abbrev pub AreUnmoved : {G : Type 0} → List ℕ → List (List ℕ × G) → List (List ℕ × ℕ) → List ℕ → List (List ℕ × G) → List (List ℕ × ℕ) → Type 0
AreUnmoved seats values slots others after later =
    (place slot : ℕ) → slice_get others place ≡ Some slot → in_slot later slot ≡ None
    → (slice_get seats place ≡ Some slot) × (in_slot slots slot ≡ None) × (in_slot after slot ≡ in_slot values slot)

-- what was made for the slot stands to its value as is asked; where nothing was made its value does
abbrev pub IsMadeAt : {G : Type 0} → (G → G → Type 0) → List (List ℕ × G) → List (List ℕ × G) → ℕ → Type 0
IsMadeAt {G} P values made slot = (g : G) → in_slot values slot ≡ Some g → MatchOption (in_slot made slot) (P g g) (λ h. P g h)

-- and it is so for the slot of each of the places
abbrev pub AreMadeFor : {G : Type 0} → (G → G → Type 0) → List ℕ → List ℕ → List (List ℕ × G) → List (List ℕ × G) → Type 0
AreMadeFor P places seats values made = (place slot : ℕ) → is_among places place ≡ true → slice_get seats place ≡ Some slot → IsMadeAt P values made slot

-- places moved: they are on the move still, those that are left have what they had, and each that moved has what was asked
pub record HasMoved {G : Type 0} (P : G → G → Type 0) (moves : ℕ → Bool) (seats : List ℕ) (values : List (List ℕ × G)) (slots : List (List ℕ × ℕ))
    (others : List ℕ) (after : List (List ℕ × G)) (later : List (List ℕ × ℕ)) : Type 0 where
  pub moving : AreMoving P others after later
  pub unmoved : AreUnmoved seats values slots others after later
  pub moved : AreMoved P moves seats values others after
