-- Single bits of words.
use Rattle.std.proofs.Common.{◌≡◌, ℕ, ◌+◌, ◌-◌, ◌*◌, ◌/◌, ◌%◌, ◌^◌, ◌<◌, Bool, true, false, not, ◌&&◌, ◌||◌, cond, eqb, ltb, leb, leb-true, leb-false, suc, min, max, refl, ap, sym, ◌∙◌, arith, bit_and, bit_or, w64, eqb-true, ltb-true, ltb-false}
use Rattle.std.proofs.lemmas.Bool.{eqb-false}
use Rattle.std.proofs.lemmas.Bool.Decides.{nat_tests}
use Rattle.std.proofs.lemmas.Nat.{one_shl, pow_pos, pow_below, div-add-mod'}
use Rattle.std.proofs.lemmas.Nat.Bits.{bit_at_and, bit_at_or, bit_at_ones, bit_at-lt, bit_at_set_same, bit_at_set_other, bit_at_clear_same, bit_at_clear_other, bit_at_above, bit_at-suc, bit_at_ones_above, bit_at_not, bit_at_cat_low, bit_at_cat_high, bit_at-zero}
use Rattle.std.proofs.Math.Nat.{mod-lt}
use Rattle.std.specs.Int.{bit_at, bit_not}
use Rattle.adr_keys.specs.Places.{bit}

-- the greater of two bits is set where one of them is, and the lesser where both are
max_set : (a b : ℕ) → a < 2 → b < 2 → eqb (max a b) 1 ≡ (eqb a 1 || eqb b 1)
max_set a b h k = grind (arith, nat_tests)

min_set : (a b : ℕ) → a < 2 → b < 2 → eqb (min a b) 1 ≡ (eqb a 1 && eqb b 1)
min_set a b h k = grind (arith, nat_tests)

pub bit-or : (a b i : ℕ) → bit (bit_or a b) i ≡ (bit a i || bit b i)
bit-or a b i = ap (λ x. eqb x 1) (bit_at_or a b i) ∙ max_set (bit_at a i) (bit_at b i) (bit_at-lt a i) (bit_at-lt b i)

pub bit-and : (a b i : ℕ) → bit (bit_and a b) i ≡ (bit a i && bit b i)
bit-and a b i = ap (λ x. eqb x 1) (bit_at_and a b i) ∙ min_set (bit_at a i) (bit_at b i) (bit_at-lt a i) (bit_at-lt b i)

pub bit-set : (w k : ℕ) → k < 64 → (i : ℕ) → bit (bit_or w (1 * 2 ^ k % 2 ^ 64)) i ≡ (eqb i k || bit w i)
bit-set w k h i = by (eqb i k) refl
  where
    by : (b : Bool) → eqb i k ≡ b → bit (bit_or w (1 * 2 ^ k % 2 ^ 64)) i ≡ (b || bit w i)
    by true e = ap (λ x. eqb x 1) (ap (bit_at (bit_or w (1 * 2 ^ k % 2 ^ 64))) (eqb-true i k e) ∙ bit_at_set_same w64 w k h)
    by false e = ap (λ x. eqb x 1) (bit_at_set_other w64 w k h i (eqb-false i k e))

pub bit-clear : (w k : ℕ) → k < 64 → (i : ℕ) → i < 64 → bit (bit_and w (bit_not w64 (1 * 2 ^ k % 2 ^ 64))) i ≡ (not (eqb i k) && bit w i)
bit-clear w k h i l = by (eqb i k) refl
  where
    by : (b : Bool) → eqb i k ≡ b → bit (bit_and w (bit_not w64 (1 * 2 ^ k % 2 ^ 64))) i ≡ (not b && bit w i)
    by true e = ap (λ x. eqb x 1) (ap (bit_at (bit_and w (bit_not w64 (1 * 2 ^ k % 2 ^ 64)))) (eqb-true i k e) ∙ bit_at_clear_same w64 w k h)
    by false e = ap (λ x. eqb x 1) (bit_at_clear_other w64 w k h i l (eqb-false i k e))

-- ---- a word with a bit taken out

-- the mask of the bits below k, and its complement
mask : (k i : ℕ) → bit (2 ^ k - 1) i ≡ ltb i k
mask k i = by (ltb i k) refl
  where
    by : (b : Bool) → ltb i k ≡ b → bit (2 ^ k - 1) i ≡ b
    by true e = ap (λ x. eqb x 1) (bit_at_ones k i (ltb-true i k e))
    by false e = ap (λ x. eqb x 1) (bit_at_ones_above k i (ltb-false i k e))

bit-not : (m i : ℕ) → m < 2 ^ 64 → i < 64 → bit (bit_not w64 m) i ≡ not (bit m i)
bit-not m i h l = ap (λ x. eqb x 1) (bit_at_not w64 m i h l) ∙ turned (bit_at m i) (bit_at-lt m i)
  where
    turned : (b : ℕ) → b < 2 → eqb (1 - b) 1 ≡ not (eqb b 1)
    turned b h = grind (arith, nat_tests)

moved : (w i : ℕ) → bit (w / 2) i ≡ bit w (i + 1)
moved w i = let e : i + 1 ≡ suc i = omega arith in ap (λ x. eqb x 1) (sym (bit_at-suc w i)) ∙ ap (bit w) (sym e)

chosen : (c a b : Bool) → ((a && c) || (b && not c)) ≡ cond c a b
chosen true true true = refl
chosen true true false = refl
chosen true false true = refl
chosen true false false = refl
chosen false true true = refl
chosen false true false = refl
chosen false false true = refl
chosen false false false = refl

pub bit-gap : (w k m : ℕ) → k < 64 → m ≡ 1 * 2 ^ k % 2 ^ 64 - 1 → (i : ℕ) → i < 64
    → bit (bit_or (bit_and w m) (bit_and (w / 2) (bit_not w64 m))) i ≡ cond (ltb i k) (bit w i) (bit w (i + 1))
bit-gap w k m h e i l =
    let p : m ≡ 2 ^ k - 1 = e ∙ ap (λ x. x - 1) (one_shl k 64 h) in
    let small : m < 2 ^ 64 = omega (arith, p, pow_below k 64 h, pow_pos k) in
    let mine : bit m i ≡ ltb i k = ap (λ x. bit x i) p ∙ mask k i in
    bit-or (bit_and w m) (bit_and (w / 2) (bit_not w64 m)) i
    ∙ ap (λ x. x || bit (bit_and (w / 2) (bit_not w64 m)) i) (bit-and w m i)
    ∙ ap (λ x. (bit w i && bit m i) || x) (bit-and (w / 2) (bit_not w64 m) i)
    ∙ ap (λ x. (bit w i && bit m i) || (bit (w / 2) i && x)) (bit-not m i small l)
    ∙ ap (λ x. (bit w i && bit m i) || (x && not (bit m i))) (moved w i)
    ∙ ap (λ x. (bit w i && x) || (bit w (i + 1) && not x)) mine
    ∙ chosen (ltb i k) (bit w i) (bit w (i + 1))

-- a word has no bit past its 64
pub bit-past : (w : ℕ) → w < 2 ^ 64 → bit w 64 ≡ false
bit-past w h = ap (λ x. eqb x 1) (bit_at_above w 64 64 h (omega arith))

-- ---- bits that are cut off or moved

pub bit-low : (w k m : ℕ) → k < 64 → m ≡ 1 * 2 ^ k % 2 ^ 64 - 1 → (i : ℕ) → bit (bit_and w m) i ≡ (ltb i k && bit w i)
bit-low w k m h e i =
    let p : m ≡ 2 ^ k - 1 = e ∙ ap (λ x. x - 1) (one_shl k 64 h) in
    bit-and w m i ∙ ap (λ x. bit w i && bit x i) p ∙ ap (λ x. bit w i && x) (mask k i) ∙ turn (bit w i) (ltb i k)
  where
    turn : (a b : Bool) → (a && b) ≡ (b && a)
    turn true true = refl
    turn true false = refl
    turn false true = refl
    turn false false = refl

-- the low bits of a number that is cut off
wrapped : (n i : ℕ) → i < 64 → bit (n % 2 ^ 64) i ≡ bit n i
wrapped n i h = ap (λ x. eqb x 1) (sym (bit_at_cat_low (n / 2 ^ 64) 64 (n % 2 ^ 64) i h) ∙ ap (λ x. bit_at x i) (div-add-mod' n (2 ^ 64)))

pub bit-up : (w k i : ℕ) → i < 64 → bit (w * 2 ^ k % 2 ^ 64) i ≡ (leb k i && bit w (i - k))
bit-up w k i h = wrapped (w * 2 ^ k) i h ∙ ap (λ x. bit x i) (sym (plain (w * 2 ^ k))) ∙ by (leb k i) refl
  where
    plain : (n : ℕ) → n + 0 ≡ n
    plain n = omega arith

    by : (b : Bool) → leb k i ≡ b → bit (w * 2 ^ k + 0) i ≡ (b && bit w (i - k))
    by true e = ap (λ x. eqb x 1) (bit_at_cat_high w k 0 i (pow_pos k) (leb-true k i e))
    by false e = ap (λ x. eqb x 1) (bit_at_cat_low w k 0 i (let l = leb-false k i e in omega arith) ∙ bit_at-zero i)

pub bit-down : (w m i : ℕ) → bit (w / 2 ^ m) i ≡ bit w (i + m)
bit-down w m i =
    let back : i + m - m ≡ i = omega arith in
    ap (bit (w / 2 ^ m)) (sym back)
    ∙ ap (λ x. eqb x 1) (sym (bit_at_cat_high (w / 2 ^ m) m (w % 2 ^ m) (i + m) (mod_below w m) (omega arith)) ∙ ap (λ x. bit_at x (i + m)) (div-add-mod' w (2 ^ m)))
  where
    mod_below : (n j : ℕ) → n % 2 ^ j < 2 ^ j
    mod_below n j = mod-lt n (pow_pos j)

-- the bits that go over the top
pub bit-over : (w k i : ℕ) → 0 < k → k < 64 → w < 2 ^ 64 → i < 64 → bit (w / 2 ^ (64 - k)) i ≡ (ltb i k && bit w (i + 64 - k))
bit-over w k i z h small l = bit-down w (64 - k) i ∙ ap (bit w) (place i k h) ∙ by (ltb i k) refl
  where
    place : (i k : ℕ) → k < 64 → i + (64 - k) ≡ i + 64 - k
    place i k h = omega arith

    by : (b : Bool) → ltb i k ≡ b → bit w (i + 64 - k) ≡ (b && bit w (i + 64 - k))
    by true e = refl
    by false e = let m = ltb-false i k e in ap (λ x. eqb x 1) (bit_at_above w 64 (i + 64 - k) small (omega arith))

-- a word of ones
pub bit-ones : (i : ℕ) → i < 64 → bit 18446744073709551615 i ≡ true
bit-ones i h = ap (λ x. eqb x 1) (bit_at_ones 64 i h)
