-- A table of values, each found by its own id, in the order in which they were added.
use Rattle.std.specs.Prelude.{◌≡◌, ◌==◌, ◌&&◌, ◌+◌, ◌<◌, ℕ, not, List, [], ◌∷◌, map, filter, slice_get, Option, Some, option_map, if◌then◌else◌}
use Rattle.std.specs.List.{IsDistinct, find}
use Rattle.std.specs.Map.{values_of}
use Rattle.std.specs.Str.{bytes_eq}
use Rattle.adr_shared.specs.Map.{lookup, AreBelow, IsAscending}

-- the value with the id
abbrev pub find_by : {T : Type 0} → (T → List ℕ) → List T → List ℕ → Option T
find_by key items id = find (λ x. bytes_eq id (key x)) items

-- the list with x in the place of the values with its id
abbrev pub put_by : {T : Type 0} → (T → List ℕ) → List T → T → List T
put_by key items x = map (λ y. if bytes_eq (key x) (key y) then x else y) items

-- the list without the values with the id
abbrev pub without : {T : Type 0} → (T → List ℕ) → List T → List ℕ → List T
without key items id = filter (λ x. not (bytes_eq id (key x))) items

-- a row is a value under the code of the number that it got as it was added: the row of the value with the id
abbrev pub row_by : {T : Type 0} → (T → List ℕ) → List (List ℕ × T) → List ℕ → Option (List ℕ × T)
row_by key rows id = find (λ e. bytes_eq id (key e.1)) rows

-- each id leads to the number of the value with it, no id stands twice, and all numbers are below the next
pub record IsTable {T : Type 0} (key : T → List ℕ) (rows : List (List ℕ × T)) (numbers : List (List ℕ × ℕ)) (next : ℕ) : Type 0 where
  pub found : (id : List ℕ) → option_map (λ n. n ∷ []) (lookup id numbers) ≡ option_map (λ e. e.0) (row_by key rows id)
  pub distinct : IsDistinct bytes_eq (map key (values_of rows))
  pub ordered : IsAscending rows
  pub earlier : AreBelow next rows

-- the rows of the numbers below the bound stand at the places of these numbers
abbrev pub AreAtNumbers : {T : Type 0} → ℕ → List (List ℕ × T) → Type 0
AreAtNumbers bound rows = (n : ℕ) → n < bound → option_map (λ e. e.0) (slice_get rows n) ≡ Some (n ∷ [])

-- the bound once the next number's row is added at the place
abbrev pub dense_with : ℕ → ℕ → ℕ → ℕ
dense_with dense next place = if dense == next && place == next then next + 1 else dense
