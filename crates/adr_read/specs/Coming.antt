-- The value that comes next, token by token.
use Rattle.std.specs.Prelude.{◌≡◌, ◌≢◌, ℕ, List, length, Option, Some, None, Result, Ok, Err}
use Rattle.json.specs.Token.{Token}
use Rattle.json.specs.Json.{value, items, members}
use Rattle.serde_json.specs.Data.{Data, Items, Members, no_members}
use Rattle.serde_json.specs.Read.{of_json, of_items, of_members, converted}
use Rattle.adr_refusal.specs.declared.refusal.Refusal.{Refusal}
use Rattle.adr_refusal.specs.declared.refusal.Refusal.TheVariants.{BadJson, NoMemory}

-- the value that the tokens begin with, where they begin with one that opens no more than `depth` arrays and objects
-- within each other, and what follows it
abbrev pub coming : ℕ → List Token → Option (Data × List Token)
coming depth tokens = converted of_json (value depth tokens)

-- some value comes, and `rest` follows it
abbrev pub Comes : ℕ → List Token → List Token → Type 0
Comes depth tokens rest = (d : Data) × (coming depth tokens ≡ Some (d, rest))

-- the items that come up to the bracket that closes their array, and what follows it
abbrev pub coming_items : ℕ → List Token → Option (Items × List Token)
coming_items depth tokens = converted of_items (items (value depth) (length tokens) tokens)

-- the members that come up to the brace that closes their object, and what follows it
abbrev pub coming_members : ℕ → List Token → Option (Members × List Token)
coming_members depth tokens = converted (λ ms. of_members ms no_members) (members (value depth) (length tokens) tokens)

-- what a call tells that takes the value that comes: P of that value, or that none comes, or want of memory
abbrev pub Tells : {A : Type 0} → Option (Data × List Token) → List Token → (Data → A → Type 0) → Result A Refusal → Type 0
Tells came rest P (Ok r) = (d : Data) × (came ≡ Some (d, rest)) × P d r
Tells came rest P (Err f) = f ≢ NoMemory → (f ≡ BadJson) × (came ≡ None)
