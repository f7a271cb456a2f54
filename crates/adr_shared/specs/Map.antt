-- Maps as lists of entries, each the code of its key and its value, in the order of the codes.
use Rattle.std.specs.Prelude.{◌≡◌, ℕ, not, Option, List, [], ◌∷◌, ◌++◌, length, filter, option_map}
use Rattle.std.specs.declared.cmp.Ordering.{Ordering}
use Rattle.std.specs.Ordering.{nat_cmp, is_lt, is_eq, is_gt}
use Rattle.std.specs.Cmp.Lexicographic.{slice_cmp}
use Rattle.std.specs.declared.cmp.Ordering.TheVariants.{Greater}
use Rattle.std.specs.List.{AllByRecursion}
use Rattle.std.specs.List.Sorted.{IsStrictlySortedBy}
use Rattle.std.specs.Map.{keys_of, lookup as lookup_by}

-- the order of two codes: the first numbers that differ decide, and else the lengths
abbrev pub code_cmp : List ℕ → List ℕ → Ordering
code_cmp = slice_cmp nat_cmp

-- each code is below those after it
abbrev pub IsAscending : {V : Type 0} → List (List ℕ × V) → Type 0
IsAscending entries = IsStrictlySortedBy code_cmp (keys_of entries)

-- the value of the entry with the code
abbrev pub lookup : {V : Type 0} → List ℕ → List (List ℕ × V) → Option V
lookup code entries = lookup_by (λ c. is_eq (code_cmp code c)) entries

-- the entries whose codes are below the code
abbrev pub below : {V : Type 0} → List ℕ → List (List ℕ × V) → List (List ℕ × V)
below code entries = filter (λ e. is_gt (code_cmp code e.0)) entries

-- the entries whose codes are above the code
abbrev pub above : {V : Type 0} → List ℕ → List (List ℕ × V) → List (List ℕ × V)
above code entries = filter (λ e. is_lt (code_cmp code e.0)) entries

-- the place of the entry with the code: how many codes are below it
abbrev pub place_of : {V : Type 0} → List ℕ → List (List ℕ × V) → Option ℕ
place_of code entries = option_map (λ _. length (below code entries)) (lookup code entries)

-- the entries with the value at the code
abbrev pub put : {V : Type 0} → List ℕ → V → List (List ℕ × V) → List (List ℕ × V)
put code value entries = below code entries ++ (code, value) ∷ above code entries

-- the entries without the one with the code
abbrev pub without : {V : Type 0} → List ℕ → List (List ℕ × V) → List (List ℕ × V)
without code entries = filter (λ e. not (is_eq (code_cmp code e.0))) entries

-- the number's code is above all codes
abbrev pub AreBelow : {V : Type 0} → ℕ → List (List ℕ × V) → Type 0
AreBelow n entries = AllByRecursion (λ e. code_cmp (n ∷ []) e.0 ≡ Greater) entries
