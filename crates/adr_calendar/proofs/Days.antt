-- The day of an instant, and the time that has passed since its midnight.
use Rattle.std.proofs.Common.{◌≡◌, ◌<◌, ℕ, ℤ, pos, negsuc, ◌+ℤ◌, ◌-ℤ◌, ◌*ℤ◌, ◌≤ℤ◌, unsigned_abs, sym, ap, ◌∙◌, arith}
use Rattle.std.proofs.lemmas.Int.{ints}
use Rattle.adr_time.specs.Calendar.{clock_of, day_of}

-- a whole number of days is a midnight
pub midnight : (q : ℤ) → clock_of (q *ℤ pos 86_400_000_000_000) ≡ 0
midnight (pos a) = grind (arith, ints)
midnight (negsuc a) = grind (arith, ints)

-- what is less than a day behind a midnight is of its day
pub same_day : (m : ℤ) (s : ℕ) → clock_of m ≡ 0 → s < 86_400_000_000_000 → day_of (m +ℤ pos s) ≡ day_of m
same_day (pos a) s whole h = grind (arith, ints)
same_day (negsuc a) s whole h = grind (arith, ints)

pub same_clock : (m : ℤ) (s : ℕ) → clock_of m ≡ 0 → s < 86_400_000_000_000 → clock_of (m +ℤ pos s) ≡ s
same_clock (pos a) s whole h = grind (arith, ints)
same_clock (negsuc a) s whole h = grind (arith, ints)

-- so is an instant that is less than a day behind it
pub in_day : (t m : ℤ) → clock_of m ≡ 0 → pos 0 ≤ℤ (t -ℤ m) → unsigned_abs (t -ℤ m) < 86_400_000_000_000
    → (unsigned_abs (t -ℤ m) ≡ clock_of t) × (day_of t ≡ day_of m)
in_day t m whole later less =
    let back = behind t m later in (
      sym (ap clock_of back ∙ same_clock m (unsigned_abs (t -ℤ m)) whole less),
      ap day_of back ∙ same_day m (unsigned_abs (t -ℤ m)) whole less,
    )
  where
    behind : (t m : ℤ) → pos 0 ≤ℤ (t -ℤ m) → t ≡ m +ℤ pos (unsigned_abs (t -ℤ m))
    behind t m later = grind (arith, ints)
