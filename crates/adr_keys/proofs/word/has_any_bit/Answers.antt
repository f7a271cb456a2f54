use Rattle.std.proofs.Common.{◌≡◌, ◌<◌, ◌^◌, ℕ, true, false, not, Bool, eqb, w64, refl, ap, arith}
use Rattle.std.proofs.lemmas.Bool.{eqb-false, false≢true}
use Rattle.std.proofs.lemmas.Nat.Bits.{bit_at-trailing_zeros}
use Rattle.std.specs.Int.{trailing_zeros}
use Rattle.adr_keys.specs.Places.{bit}
use Rattle.adr_keys.proofs.word.has_any_bit.Goals as goal

some_bit : (word : ℕ) → word < 2 ^ 64 → not (eqb word 0) ≡ true → (i : ℕ) × (i < 64) × (bit word i ≡ true)
some_bit word small h = by (eqb word 0) refl h
  where
    by : (v : Bool) → eqb word 0 ≡ v → not v ≡ true → (i : ℕ) × (i < 64) × (bit word i ≡ true)
    by true e k = absurd (false≢true k)
    by false e k =
        let none = eqb-false word 0 e in
        let t = bit_at-trailing_zeros w64 word (omega (arith, none)) small in
        (trailing_zeros w64 word, t.0, ap (λ x. eqb x 1) t.1)

pub returns-clause-some : goal.returns-clause-some
returns-clause-some c = some_bit c.args.word c.ranges.word.fits
