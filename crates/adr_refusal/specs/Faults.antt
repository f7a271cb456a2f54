-- Sets of faults, as lists: the one that is answered is the least.
use Rattle.std.specs.Prelude.{◌≡◌, ◌≢◌, ℕ, ◌≤◌, min, nat_le, List, [], ◌∷◌, Option, Some, None, Result, Ok, Err, All, Contains, if◌then◌else◌}
use Rattle.adr_refusal.specs.Refusal.{number_of}
use Rattle.adr_refusal.specs.declared.refusal.Refusal.{Refusal}

-- a member of the set that is no greater than any other
pub record IsLeast (f : Refusal) (faults : List Refusal) : Type 0 where
  pub member : Contains faults f
  pub lower : All (λ g. number_of f ≤ number_of g) faults

-- the one of the lesser number
abbrev pub lesser : Refusal → Refusal → Refusal
lesser f g = if nat_le (number_of f) (number_of g) then f else g

-- the lesser of one and perhaps another
abbrev pub lesser_of : Refusal → Option Refusal → Refusal
lesser_of f None = f
lesser_of f (Some g) = lesser f g

-- the least of the faults, if there is one
unfoldable pub least_fault : List Refusal → Option Refusal
least_fault [] = None
least_fault (f ∷ fs) = Some (lesser_of f (least_fault fs))

-- the value, if there is no fault
abbrev pub unless_refused : {T : Type 0} → Option Refusal → T → Result T Refusal
unless_refused None value = Ok value
unless_refused (Some f) value = Err f

-- the value, if nothing is at fault, else the least fault
abbrev pub judged : {T : Type 0} → List Refusal → T → Result T Refusal
judged faults value = unless_refused (least_fault faults) value

-- what `least_fault` answers is a least fault
abbrev pub LeastIsLeast : Type 0
LeastIsLeast = (faults : List Refusal) (f : Refusal) → least_fault faults ≡ Some f → IsLeast f faults

-- and nothing only where there is no fault
abbrev pub NoneIsNone : Type 0
NoneIsNone = (faults : List Refusal) → least_fault faults ≡ None → faults ≡ []

-- ---- the same by numbers, for the parts of a whole

-- above the number of each refusal
abbrev pub none : ℕ
none = 100

-- the least of the faults' numbers
abbrev pub least : List Refusal → ℕ
least [] = none
least (f ∷ fs) = min (number_of f) (least fs)

-- the number of a fault, if there is one
abbrev pub least_of : Option Refusal → ℕ
least_of None = none
least_of (Some f) = number_of f

-- the refusal has that number, or is want of memory
abbrev pub IsRefusedFor : Refusal → ℕ → Type 0
IsRefusedFor f n = number_of f ≢ 99 → number_of f ≡ n

-- the part's value where it has no fault, else a refusal with the least fault's number, or want of memory
abbrev pub Gives : {T : Type 0} → Result T Refusal → List Refusal → T → Type 0
Gives (Ok v) faults value = (least faults ≡ none) × (v ≡ value)
Gives (Err f) faults value = IsRefusedFor f (least faults)
