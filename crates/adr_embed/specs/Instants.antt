-- Instants as whole seconds and nanoseconds.
use Rattle.std.specs.Prelude.{ℕ, nat_lt, ℤ, pos, neg_ℤ, ◌+ℤ◌, ◌*ℤ◌, int_le, ◌&&◌, Bool, Result, Ok, Err, if◌then◌else◌}
use Rattle.adr_refusal.specs.declared.refusal.Refusal.{Refusal}
use Rattle.adr_refusal.specs.declared.refusal.Refusal.TheVariants.{BadMoment}

-- the nanoseconds since 1970-01-01T00:00:00Z, so many seconds after it and so many nanoseconds after these
abbrev pub instant : ℤ → ℕ → ℤ
instant seconds nanoseconds = seconds *ℤ pos 1_000_000_000 +ℤ pos nanoseconds

-- from -9999-01-02T01:59:59Z to 9999-12-30T22:00:00.999999999Z
abbrev pub is_in_range : ℤ → Bool
is_in_range t = int_le (neg_ℤ (pos 377_705_023_201_000_000_000)) t && int_le t (pos 253_402_207_200_999_999_999)

-- the instant, where the nanoseconds are less than a second's and the instant is in range
abbrev pub moment_at : ℤ → ℕ → Result ℤ Refusal
moment_at seconds nanoseconds =
    if nat_lt nanoseconds 1_000_000_000 && is_in_range (instant seconds nanoseconds) then Ok (instant seconds nanoseconds)
    else Err BadMoment
