-- Which slot each place has.
use Rattle.std.specs.Prelude.{◌≡◌, ℕ, ◌==◌, List, length, get_or, filter}

-- how many places have the slot
abbrev pub members_of : ℕ → List ℕ → ℕ
members_of slot seats = length (filter (λ s. s == slot) seats)

-- each slot's number is that of the places that have it; past the end of the numbers no slot has a place
abbrev pub IsCountOf : List ℕ → List ℕ → Type 0
IsCountOf counts seats = (slot : ℕ) → get_or counts slot 0 ≡ members_of slot seats
