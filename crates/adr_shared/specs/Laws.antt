-- What a look-up finds after an edit of a map.
use Rattle.std.specs.Prelude.{◌≡◌, ℕ, List, Some, None, if◌then◌else◌}
use Rattle.std.specs.Str.{bytes_eq}
use Rattle.adr_shared.specs.Map.{lookup, put, without}

-- after a value is put at a code that code has it, and any other what it had
abbrev pub PutIsFound : Type 0 → Type 0
PutIsFound V = (entries : List (List ℕ × V)) (code : List ℕ) (value : V) (other : List ℕ)
    → lookup other (put code value entries) ≡ (if bytes_eq other code then Some value else lookup other entries)

-- after a code is taken out it has nothing, and any other what it had
abbrev pub TakenIsGone : Type 0 → Type 0
TakenIsGone V = (entries : List (List ℕ × V)) (code : List ℕ) (other : List ℕ)
    → lookup other (without code entries) ≡ (if bytes_eq other code then None else lookup other entries)
