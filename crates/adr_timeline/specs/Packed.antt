-- Segments whose instants are kept in two halves.
use Rattle.std.specs.Prelude.{◌≡◌, Bool, true, false, ◌≤ℤ◌, ◌<ℤ◌, ℤ, pos, neg_ℤ, if◌then◌else◌, refl}
use Rattle.std.proofs.Common.{cond, sym}
use Rattle.std.proofs.lemmas.Bool.Decides.{Decides-int_eq}
use Rattle.std.specs.Ordering.{int_eq}
use Rattle.adr_time.specs.declared.span.End.{End}
use Rattle.adr_time.specs.declared.span.End.TheVariants.{At, Endless}

-- the number of the first moment
abbrev pub least_number : ℤ
least_number = neg_ℤ (pos 377_705_023_201_000_000_000)

-- the number that stands for no end, the first after those of moments
abbrev pub no_end : ℤ
no_end = pos 253_402_207_201_000_000_000

-- the number of an end
abbrev pub number_of : End → ℤ
number_of (At t) = t
number_of Endless = no_end

-- the end that a number stands for
abbrev pub end_of : ℤ → End
end_of n = if int_eq n no_end then Endless else At n

-- the number is a moment's
abbrev pub IsMoment : ℤ → Type 0
IsMoment n = (least_number ≤ℤ n) × (n <ℤ no_end)

-- the number stands for an end
abbrev pub IsEnd : ℤ → Type 0
IsEnd n = (least_number ≤ℤ n) × (n ≤ℤ no_end)

-- the number of the end that a number stands for is that number
pub number_again : (n : ℤ) → number_of (end_of n) ≡ n
number_again n = either (int_eq n no_end) refl
  where
    either : (x : Bool) → int_eq n no_end ≡ x → number_of (cond x Endless (At n)) ≡ n
    either true same = sym ((Decides-int_eq n no_end).0 same)
    either false other = refl
