-- How many characters a text has, by how many bytes.
use Rattle.std.proofs.Common.{◌≡◌, ◌∙◌, ◌≤◌, ◌<◌, ℕ, suc, List, [], ◌∷◌, true, false, length, arith, refl, sym, ap, subst}
use Rattle.std.specs.Prelude.{not, ◌==◌, ◌&&◌, nat_le}
use Rattle.std.specs.Str.{IsUtf8, chars}
use Rattle.std.proofs.Math.Utf8.{encodes}
use Rattle.std.proofs.lemmas.Str.{encodes-chars, length-le-encodes}
use Rattle.adr_value.specs.Names.{is_name}

-- some bytes are some characters
some_encoded : (cs bs : List ℕ) → encodes cs ≡ bs → 0 < length bs → 1 ≤ length cs
some_encoded [] bs e some = let none : 0 ≡ length bs = ap length e in absurd (omega arith)
some_encoded (c ∷ cs) bs e some = omega arith

-- a character takes a byte or more
at_most : (bs : List ℕ) → IsUtf8 bs → length (chars bs) ≤ length bs
at_most bs utf8 = subst (λ ys. length (chars bs) ≤ length ys) (encodes-chars bs utf8) (length-le-encodes (chars bs))

within : (n : ℕ) → 1 ≤ n → n ≤ 128 → (nat_le 1 n && nat_le n 128) ≡ true
within n low high = grind arith

above : (n : ℕ) → 1 ≤ n → (nat_le 1 n && nat_le n 128) ≡ nat_le n 128
above n low = grind arith

filled : (n : ℕ) → not (suc n == 0) ≡ true
filled n = grind arith

no_name : is_name [] ≡ false
unfolding chars
no_name = refl

pub short_name : (bs : List ℕ) → IsUtf8 bs → length bs ≤ 128 → is_name bs ≡ not (length bs == 0)
short_name [] utf8 short = no_name
short_name (b ∷ bs) utf8 short =
    let some = some_encoded (chars (b ∷ bs)) (b ∷ bs) (encodes-chars (b ∷ bs) utf8) (omega arith) in
    let bytes = at_most (b ∷ bs) utf8 in
    within (length (chars (b ∷ bs))) some (omega arith) ∙ sym (filled (length bs))

pub long_name : (bs : List ℕ) → IsUtf8 bs → 128 < length bs → is_name bs ≡ nat_le (length (chars bs)) 128
long_name bs utf8 long = above (length (chars bs)) (some_encoded (chars bs) bs (encodes-chars bs utf8) (omega arith))
