use Rattle.std.proofs.Common.{◌≡◌, ◌<◌, ◌+◌, ◌++◌, ◌∷◌, ℕ, w64, map, length, eqb, not, ◌&&◌, ◌^◌, refl, ap, ◌∙◌, arith}
use Rattle.std.proofs.lemmas.Nat.Bits.{bit_at-trailing_zeros}
use Rattle.std.specs.Int.{trailing_zeros}
use Rattle.adr_keys.specs.Places.{bit, bits_of}
use Rattle.adr_keys.proofs.Listing.{bits-lowest, listed-more}
use Rattle.adr_keys.proofs.places.push_lowest.Goals as goal

-- the word begins with its lowest bit
first : (word lowest new : ℕ) → 0 < word → word < 2 ^ 64 → lowest ≡ trailing_zeros w64 word → ((i : ℕ) → i < 64 → bit new i ≡ (not (eqb i lowest) && bit word i)) → bits_of word ≡ lowest ∷ bits_of new
first word lowest new some small is f =
    let t = bit_at-trailing_zeros w64 word some small in
    bits-lowest word lowest new (omega (arith, is, t.0)) (ap (bit word) is ∙ ap (λ x. eqb x 1) t.1) (λ i l. ap (λ x. eqb x 1) (t.2 i (omega (arith, is, l)))) f

pub returns-clause-ok : goal.returns-clause-ok
returns-clause-ok c =
    let e = first c.args.word (trailing_zeros w64 c.args.word) c.without_bit.result c.requires.some c.ranges.word.fits refl c.without_bit.ensures in
    ap (λ xs. xs ++ map (λ i. c.args.base + i) (bits_of c.without_bit.result)) c.in_ok-push.ensures.items
    ∙ listed-more c.args.list.now.items (c.args.list.now.items ++ map (λ i. c.args.base + i) (bits_of c.args.word)) c.args.base (trailing_zeros w64 c.args.word) c.args.word c.without_bit.result e refl

pub returns-clause-fewer : goal.returns-clause-fewer
returns-clause-fewer c =
    let e = first c.args.word (trailing_zeros w64 c.args.word) c.without_bit.result c.requires.some c.ranges.word.fits refl c.without_bit.ensures in
    omega (arith, ap length e)
