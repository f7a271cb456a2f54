-- The members of an object, as they are gathered token by token.
use Rattle.std.specs.Prelude.{ℕ, List, [], ◌∷◌, Bool, true, ◌&&◌, not, Option, Some, None, Result, ⊤}
use Rattle.std.specs.List.{list_any}
use Rattle.std.specs.Str.{bytes_eq}
use Rattle.serde_json.specs.Data.{Data}
use Rattle.adr_refusal.specs.Faults.{Gives}
use Rattle.adr_refusal.specs.declared.refusal.Refusal.{Refusal}

-- what was read is what the member gives, and nothing where it is absent or null
abbrev pub Holds : {T : Type 0} → (Data → List Refusal) → (Data → T) → Option (Result T Refusal) → Option Data → Type 0
Holds faults stands_for None None = ⊤
Holds faults stands_for None (Some d) = ⊥
Holds faults stands_for (Some r) None = ⊥
Holds faults stands_for (Some r) (Some d) = Gives r (faults d) (stands_for d)

abbrev pub is_among : List ℕ → List (List ℕ) → Bool
is_among name names = list_any (bytes_eq name) names

-- no two of the names are the same
abbrev pub are_apart : List (List ℕ) → Bool
are_apart [] = true
are_apart (name ∷ names) = not (is_among name names) && are_apart names
