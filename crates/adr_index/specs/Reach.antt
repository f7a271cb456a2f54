-- The greatest end of some entries, kept as one number.
use Rattle.std.specs.Prelude.{◌≡◌, Bool, true, false, Option, Some, None, ℤ, pos, neg_ℤ, ◌≤ℤ◌, if◌then◌else◌, refl}
use Rattle.std.proofs.Common.{cond, sym}
use Rattle.std.proofs.lemmas.Bool.Decides.{Decides-int_eq}
use Rattle.std.specs.Ordering.{int_eq}
use Rattle.adr_time.specs.declared.span.End.{End}
use Rattle.adr_time.specs.declared.span.End.TheVariants.{At, Endless}

-- the number where there is no end, the last before those of moments
abbrev pub no_number : ℤ
no_number = neg_ℤ (pos 377_705_023_201_000_000_001)

-- the number where nothing ends, the first after those of moments
abbrev pub endless_number : ℤ
endless_number = pos 253_402_207_201_000_000_000

-- the end that a number stands for
abbrev pub end_in : ℤ → Option End
end_in n = if int_eq n no_number then None else if int_eq n endless_number then Some Endless else Some (At n)

-- the number of an end
abbrev pub number_in : Option End → ℤ
number_in None = no_number
number_in (Some (At t)) = t
number_in (Some Endless) = endless_number

-- the number stands for an end, or for none
abbrev pub IsReach : ℤ → Type 0
IsReach n = (no_number ≤ℤ n) × (n ≤ℤ endless_number)

-- the number of the end that a number stands for is that number
pub number_again : (n : ℤ) → number_in (end_in n) ≡ n
number_again n = either (int_eq n no_number) (int_eq n endless_number) refl refl
  where
    either : (x y : Bool) → int_eq n no_number ≡ x → int_eq n endless_number ≡ y → number_in (cond x None (cond y (Some Endless) (Some (At n)))) ≡ n
    either true y same h = sym ((Decides-int_eq n no_number).0 same)
    either false true h same = sym ((Decides-int_eq n endless_number).0 same)
    either false false h k = refl
