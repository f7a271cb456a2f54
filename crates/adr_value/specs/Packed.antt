-- A decimal in one word, 64 times its coefficient and its scale, and the word in two halves.
use Rattle.std.specs.Prelude.{◌≡◌, ◌<◌, ◌^◌, ℕ, ℤ, pos, negsuc, ◌+ℤ◌, ◌*ℤ◌, unsigned_abs}
use Rattle.std.proofs.Common.{arith}
use Rattle.std.proofs.lemmas.Int.{ints}
use Rattle.std.specs.Int.{int_div_euclid, int_rem_euclid}
use Rattle.adr_value.specs.Number.{Number}

-- the number that a word stands for
abbrev pub packed_number : ℤ → Number
packed_number p = record { coefficient = int_div_euclid p (pos 64); scale = unsigned_abs (int_rem_euclid p (pos 64)) }

-- the word of a number
abbrev pub packed_form : Number → ℤ
packed_form n = n.coefficient *ℤ pos 64 +ℤ pos n.scale

-- the word of the number that a word stands for is that word
pub packed_again : (p : ℤ) → packed_form (packed_number p) ≡ p
packed_again (pos a) = grind (arith, ints)
packed_again (negsuc a) = grind (arith, ints)

-- the word of an upper and a lower half
abbrev pub word_of : ℤ → ℕ → ℤ
word_of high low = high *ℤ pos (2 ^ 64) +ℤ pos low

-- the upper half of a word
abbrev pub high_of : ℤ → ℤ
high_of p = int_div_euclid p (pos (2 ^ 64))

-- the lower half of a word
abbrev pub low_of : ℤ → ℕ
low_of p = unsigned_abs (int_rem_euclid p (pos (2 ^ 64)))

-- the halves of the word of two halves are those halves
pub high_again : (high : ℤ) (low : ℕ) → low < 2 ^ 64 → high_of (word_of high low) ≡ high
high_again (pos a) low h = grind (arith, ints)
high_again (negsuc a) low h = grind (arith, ints)

pub low_again : (high : ℤ) (low : ℕ) → low < 2 ^ 64 → low_of (word_of high low) ≡ low
low_again (pos a) low h = grind (arith, ints)
low_again (negsuc a) low h = grind (arith, ints)

-- the word of the halves of a word is that word
pub word_again : (p : ℤ) → word_of (high_of p) (low_of p) ≡ p
word_again (pos a) = grind (arith, ints)
word_again (negsuc a) = grind (arith, ints)
