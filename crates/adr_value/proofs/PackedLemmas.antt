-- What a word gives back.
use Rattle.std.proofs.Common.{◌≡◌, ◌<◌, ℕ, ℤ, pos, negsuc, ◌+ℤ◌, ◌*ℤ◌, unsigned_abs, refl, arith}
use Rattle.std.proofs.lemmas.Int.{ints}
use Rattle.std.specs.Int.{int_div_euclid, int_rem_euclid}
use Rattle.adr_value.specs.Number.{Number}
use Rattle.adr_value.specs.Packed.{packed_form, packed_number, word_of, high_of, low_of, word_again}

pub coefficient_again : (c : ℤ) (s : ℕ) → s < 64 → int_div_euclid (c *ℤ pos 64 +ℤ pos s) (pos 64) ≡ c
coefficient_again (pos a) s h = grind (arith, ints)
coefficient_again (negsuc a) s h = grind (arith, ints)

pub scale_again : (c : ℤ) (s : ℕ) → s < 64 → unsigned_abs (int_rem_euclid (c *ℤ pos 64 +ℤ pos s) (pos 64)) ≡ s
scale_again (pos a) s h = grind (arith, ints)
scale_again (negsuc a) s h = grind (arith, ints)

-- the number of the word whose halves are those of a number's word is that number
pub number_again : (n : Number) → n.scale < 64 → packed_number (word_of (high_of (packed_form n)) (low_of (packed_form n))) ≡ n
number_again n h = rw (word_again (packed_form n), coefficient_again n.coefficient n.scale h, scale_again n.coefficient n.scale h) refl
