-- Sets of places, kept as words of 64 bits.
use Rattle.std.specs.Prelude.{ℕ, ◌+◌, ◌/◌, ◌%◌, ◌==◌, nat_lt, Bool, List, length, get_or, filter, if◌then◌else◌}
use Rattle.std.specs.List.{range_with_len}
use Rattle.std.specs.Int.{bit_at}

-- the bit of the word is set
abbrev pub bit : ℕ → ℕ → Bool
bit word i = bit_at word i == 1

-- the bits that are set, lowest first
unfoldable pub bits_of : ℕ → List ℕ
bits_of word = filter (bit word) (range_with_len 0 64)

-- the place is in the set
unfoldable pub has : List ℕ → ℕ → Bool
has words place = bit (get_or words (place / 64) 0) (place % 64)

-- the set has a word for the place
abbrev pub fits : List ℕ → ℕ → Bool
fits words place = nat_lt (place / 64) (length words)

-- where what stands at a place stood before the place `gone` was closed
abbrev pub before_closing : ℕ → ℕ → ℕ
before_closing gone place = if nat_lt place gone then place else place + 1
