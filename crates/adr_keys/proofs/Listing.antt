-- Places in order, and the words of a set one after the other.
use Rattle.std.proofs.Common.{◌≡◌, ℕ, ◌+◌, ◌-◌, ◌*◌, ◌/◌, ◌%◌, ◌<◌, ◌≤◌, Bool, true, false, not, ◌&&◌, cond, eqb, ltb, leb, List, [], ◌∷◌, ◌++◌, map, filter, length, get_or, zero, suc, refl, ap, sym, ◌∙◌, arith, ltb-true, ltb-false, lt-ltb, le-ltb, leb-true, leb-false, eq-eqb, ne_eqb}
use Rattle.std.proofs.lemmas.List.{append_assoc, append-nil}
use Rattle.std.proofs.lemmas.List.Elements.{filter-append}
use Rattle.std.proofs.lemmas.List.Sums.{length-filter, count_by-le-length}
use Rattle.std.proofs.lemmas.List.FromFn.{length-range_with_len}
use Rattle.std.specs.List.{range_with_len}
use Rattle.adr_keys.specs.Blocks.{is_set}
use Rattle.adr_keys.specs.Places.{bit, bits_of, has}
use Rattle.adr_keys.specs.declared.blocks.Block.{Block}
use Rattle.adr_keys.proofs.Bits.{bit-ones}
use Rattle.adr_keys.proofs.Words.{nothing, has-past, has-read}
use Rattle.adr_keys.proofs.Covered.{covers-to, covers-below, covers-above}

-- ---- ranges

pub range-split : (a m n : ℕ) → range_with_len a (m + n) ≡ range_with_len a m ++ range_with_len (a + m) n
range-split a zero n = let e : a + 0 ≡ a = omega arith in let z : 0 + n ≡ n = omega arith in ap (range_with_len a) z ∙ ap (λ x. range_with_len x n) (sym e)
range-split a (suc m) n =
    let e : a + 1 + m ≡ a + suc m = omega arith in
    let k : suc m + n ≡ suc (m + n) = omega arith in
    ap (range_with_len a) k ∙ ap (λ xs. a ∷ xs) (range-split (a + 1) m n) ∙ ap (λ x. a ∷ (range_with_len (a + 1) m ++ range_with_len x n)) e

-- two tests that agree on the places list the same
pub filter-range : (f g : ℕ → Bool) (a n : ℕ) → ((p : ℕ) → a ≤ p → p < a + n → f p ≡ g p) → filter f (range_with_len a n) ≡ filter g (range_with_len a n)
filter-range f g a zero h = refl
filter-range f g a (suc n) h =
    ap (λ b. cond b (a ∷ filter f (range_with_len (a + 1) n)) (filter f (range_with_len (a + 1) n))) (h a (omega arith) (omega arith))
    ∙ ap (λ xs. cond (g a) (a ∷ xs) xs) (filter-range f g (a + 1) n (λ p k l. h p (omega arith) (omega arith)))

pub filter-none : (f : ℕ → Bool) (a n : ℕ) → ((p : ℕ) → a ≤ p → p < a + n → f p ≡ false) → filter f (range_with_len a n) ≡ []
filter-none f a zero h = refl
filter-none f a (suc n) h =
    ap (λ b. cond b (a ∷ filter f (range_with_len (a + 1) n)) (filter f (range_with_len (a + 1) n))) (h a (omega arith) (omega arith))
    ∙ filter-none f (a + 1) n (λ p k l. h p (omega arith) (omega arith))

pub filter-all : (f : ℕ → Bool) (a n : ℕ) → ((p : ℕ) → a ≤ p → p < a + n → f p ≡ true) → filter f (range_with_len a n) ≡ range_with_len a n
filter-all f a zero h = refl
filter-all f a (suc n) h =
    ap (λ b. cond b (a ∷ filter f (range_with_len (a + 1) n)) (filter f (range_with_len (a + 1) n))) (h a (omega arith) (omega arith))
    ∙ ap (λ xs. a ∷ xs) (filter-all f (a + 1) n (λ p k l. h p (omega arith) (omega arith)))

-- places counted from a base on
pub filter-moved : (f g : ℕ → Bool) (base a n : ℕ) → ((i : ℕ) → a ≤ i → i < a + n → f (base + i) ≡ g i) → filter f (range_with_len (base + a) n) ≡ map (λ i. base + i) (filter g (range_with_len a n))
filter-moved f g base a zero h = refl
filter-moved f g base a (suc n) h =
    let e : base + a + 1 ≡ base + (a + 1) = omega arith in
    ap (λ b. cond b ((base + a) ∷ filter f (range_with_len (base + a + 1) n)) (filter f (range_with_len (base + a + 1) n))) (h a (omega arith) (omega arith))
    ∙ ap (λ x. cond (g a) ((base + a) ∷ filter f (range_with_len x n)) (filter f (range_with_len x n))) e
    ∙ ap (λ xs. cond (g a) ((base + a) ∷ xs) xs) (filter-moved f g base (a + 1) n (λ i k l. h i (omega arith) (omega arith)))
    ∙ by (g a)
  where
    by : (b : Bool) → cond b ((base + a) ∷ map (λ i. base + i) (filter g (range_with_len (a + 1) n))) (map (λ i. base + i) (filter g (range_with_len (a + 1) n))) ≡ map (λ i. base + i) (cond b (a ∷ filter g (range_with_len (a + 1) n)) (filter g (range_with_len (a + 1) n)))
    by true = refl
    by false = refl

-- ---- the bits of a word, lowest first

pub bits-read : (word : ℕ) → bits_of word ≡ filter (bit word) (range_with_len 0 64)
unfolding bits_of
bits-read word = refl

pub bits-zero : bits_of 0 ≡ []
bits-zero = bits-read 0 ∙ filter-none (bit 0) 0 64 (λ p k l. nothing p)

-- a word of ones has all its bits
pub bits-whole : bits_of 18446744073709551615 ≡ range_with_len 0 64
bits-whole = bits-read 18446744073709551615 ∙ filter-all (bit 18446744073709551615) 0 64 (λ p k l. bit-ones p (omega arith))

pub bits-few : (word : ℕ) → length (bits_of word) ≤ 64
bits-few word = omega (arith, ap length (bits-read word), length-filter (bit word) (range_with_len 0 64), count_by-le-length (bit word) (range_with_len 0 64), length-range_with_len 0 64)

pub bits-lowest : (rest k new : ℕ) → k < 64 → bit rest k ≡ true → ((i : ℕ) → i < k → bit rest i ≡ false) → ((i : ℕ) → i < 64 → bit new i ≡ (not (eqb i k) && bit rest i)) → bits_of rest ≡ k ∷ bits_of new
bits-lowest rest k new h own low f =
    bits-read rest ∙ split (bit rest) ∙ ap (λ xs. xs ++ filter (bit rest) (range_with_len (0 + k) (suc (63 - k)))) (filter-none (bit rest) 0 k (λ p l m. low p (omega arith)))
    ∙ ap (λ x. filter (bit rest) (range_with_len x (suc (63 - k)))) zero_add
    ∙ ap (λ b. cond b (k ∷ filter (bit rest) (range_with_len (k + 1) (63 - k))) (filter (bit rest) (range_with_len (k + 1) (63 - k)))) own
    ∙ ap (λ xs. k ∷ xs) (
    filter-range (bit rest) (bit new) (k + 1) (63 - k) (λ p l m. sym (f p (omega arith) ∙ ap (λ b. not b && bit rest p) (ne_eqb p k (λ q. omega arith))))
    ∙ sym (bits-read new ∙ split (bit new) ∙ ap (λ xs. xs ++ filter (bit new) (range_with_len (0 + k) (suc (63 - k)))) (filter-none (bit new) 0 k (λ p l m. f p (omega arith) ∙ ap (λ b. not (eqb p k) && b) (low p (omega arith)) ∙ none (not (eqb p k))))
    ∙ ap (λ x. filter (bit new) (range_with_len x (suc (63 - k)))) zero_add
    ∙ ap (λ b. cond b (k ∷ filter (bit new) (range_with_len (k + 1) (63 - k))) (filter (bit new) (range_with_len (k + 1) (63 - k)))) (f k h ∙ ap (λ b. not b && bit rest k) (eq-eqb k k refl)))
    )
  where
    zero_add : 0 + k ≡ k
    zero_add = omega arith

    none : (b : Bool) → (b && false) ≡ false
    none true = refl
    none false = refl

    split : (t : ℕ → Bool) → filter t (range_with_len 0 64) ≡ filter t (range_with_len 0 k) ++ filter t (range_with_len (0 + k) (suc (63 - k)))
    split t =
        let e : 64 ≡ k + suc (63 - k) = omega arith in
        ap (λ n. filter t (range_with_len 0 n)) e ∙ ap (filter t) (range-split 0 k (suc (63 - k))) ∙ filter-append t (range_with_len 0 k) (range_with_len (0 + k) (suc (63 - k)))

-- one place more is listed
pub listed-more : (list out : List ℕ) (base k : ℕ) (rest new : ℕ) → bits_of rest ≡ k ∷ bits_of new → list ++ map (λ i. base + i) (bits_of rest) ≡ out → (list ++ (base + k) ∷ []) ++ map (λ i. base + i) (bits_of new) ≡ out
listed-more list out base k rest new e is = append_assoc list ((base + k) ∷ []) (map (λ i. base + i) (bits_of new)) ∙ ap (λ xs. list ++ map (λ i. base + i) xs) (sym e) ∙ is

-- ---- the words of a set

-- the places below the count that the set has
abbrev pub first_places : List ℕ → ℕ → ℕ → Bool
first_places ws count p = ltb p count && has ws p

-- one word more is listed
pub words-more : (ws list : List ℕ) (index count w low : ℕ) → w ≡ get_or ws index 0 → ((i : ℕ) → i < 64 → bit low i ≡ (ltb i (count - 64 * index) && bit w i)) → 64 * index ≤ count
    → list ≡ filter (first_places ws count) (range_with_len 0 (64 * index)) → list ++ map (λ i. 64 * index + i) (bits_of low) ≡ filter (first_places ws count) (range_with_len 0 (64 * (index + 1)))
words-more ws list index count w low e f h is =
    ap (λ xs. xs ++ map (λ i. 64 * index + i) (bits_of low)) is
    ∙ ap (λ xs. filter (first_places ws count) (range_with_len 0 (64 * index)) ++ map (λ i. 64 * index + i) xs) (bits-read low)
    ∙ ap (λ xs. filter (first_places ws count) (range_with_len 0 (64 * index)) ++ xs) (sym (filter-moved (first_places ws count) (bit low) (64 * index) 0 64 each))
    ∙ ap (λ x. filter (first_places ws count) (range_with_len 0 (64 * index)) ++ filter (first_places ws count) (range_with_len x 64)) there
    ∙ sym (ap (λ n. filter (first_places ws count) (range_with_len 0 n)) (all index) ∙ ap (filter (first_places ws count)) (range-split 0 (64 * index) 64) ∙ filter-append (first_places ws count) (range_with_len 0 (64 * index)) (range_with_len (0 + 64 * index) 64))
  where
    there : 64 * index + 0 ≡ 0 + 64 * index
    there = omega arith

    all : (n : ℕ) → 64 * (n + 1) ≡ 64 * n + 64
    all n = omega arith

    each : (i : ℕ) → 0 ≤ i → i < 0 + 64 → first_places ws count (64 * index + i) ≡ bit low i
    each i z l =
        let m : i < 64 = omega arith in
        let word : (64 * index + i) / 64 ≡ index = omega arith in
        let place : (64 * index + i) % 64 ≡ i = omega arith in
        ap (λ b. b && has ws (64 * index + i)) (test (ltb (64 * index + i) count) refl)
        ∙ ap (λ b. ltb i (count - 64 * index) && b) (has-read ws (64 * index + i) ∙ ap (λ x. bit (get_or ws x 0) ((64 * index + i) % 64)) word ∙ ap (bit (get_or ws index 0)) place ∙ ap (λ x. bit x i) (sym e))
        ∙ sym (f i m)
      where
        test : (b : Bool) → ltb (64 * index + i) count ≡ b → b ≡ ltb i (count - 64 * index)
        test true d = sym (lt-ltb i (count - 64 * index) (let k = ltb-true (64 * index + i) count d in omega arith))
        test false d = sym (le-ltb i (count - 64 * index) (let k = ltb-false (64 * index + i) count d in omega arith))

-- all words are listed
pub words-all : (ws : List ℕ) (n count : ℕ) → ((p : ℕ) → n ≤ p → first_places ws count p ≡ false) → filter (first_places ws count) (range_with_len 0 n) ≡ filter (has ws) (range_with_len 0 count)
words-all ws n count past = by (ltb n count) refl
  where
    one : (p : ℕ) → p < count → first_places ws count p ≡ has ws p
    one p h = ap (λ b. b && has ws p) (lt-ltb p count h)

    by : (b : Bool) → ltb n count ≡ b → filter (first_places ws count) (range_with_len 0 n) ≡ filter (has ws) (range_with_len 0 count)
    by true d =
        let l = ltb-true n count d in
        let e : n + (count - n) ≡ count = omega arith in
        filter-range (first_places ws count) (has ws) 0 n (λ p k m. one p (omega arith))
        ∙ sym (ap (λ x. filter (has ws) (range_with_len 0 x)) (sym e) ∙ ap (filter (has ws)) (range-split 0 n (count - n)) ∙ filter-append (has ws) (range_with_len 0 n) (range_with_len (0 + n) (count - n))
        ∙ ap (λ xs. filter (has ws) (range_with_len 0 n) ++ xs) (filter-none (has ws) (0 + n) (count - n) (λ p k m. sym (one p (omega arith)) ∙ past p (omega arith)))
        ∙ append-nil (filter (has ws) (range_with_len 0 n)))
    by false d =
        let l = ltb-false n count d in
        let e : count + (n - count) ≡ n = omega arith in
        ap (λ x. filter (first_places ws count) (range_with_len 0 x)) (sym e) ∙ ap (filter (first_places ws count)) (range-split 0 count (n - count)) ∙ filter-append (first_places ws count) (range_with_len 0 count) (range_with_len (0 + count) (n - count))
        ∙ ap (λ xs. filter (first_places ws count) (range_with_len 0 count) ++ xs) (filter-none (first_places ws count) (0 + count) (n - count) (λ p k m. ap (λ b. b && has ws p) (le-ltb p count (omega arith))))
        ∙ append-nil (filter (first_places ws count) (range_with_len 0 count))
        ∙ filter-range (first_places ws count) (has ws) 0 count (λ p k m. one p (omega arith))

pub words-past : (ws : List ℕ) (last count p : ℕ) → last ≡ length ws → 64 * last ≤ p → first_places ws count p ≡ false
words-past ws last count p e h = ap (λ b. ltb p count && b) (has-past ws p (omega arith)) ∙ none (ltb p count)
  where
    none : (b : Bool) → (b && false) ≡ false
    none true = refl
    none false = refl

-- ---- a block in the words

module _ (b : Block) (up over : ℕ) (f : (i : ℕ) → i < 64 → bit up i ≡ (leb (b.start % 64) i && bit b.bits (i - b.start % 64))) (g : (i : ℕ) → i < 64 → bit over i ≡ (ltb i (b.start % 64) && bit b.bits (i + 64 - b.start % 64))) where
  pub block-here : (p : ℕ) → p / 64 ≡ b.start / 64 → bit up (p % 64) ≡ is_set p b
  block-here p e = f (p % 64) (omega arith) ∙ by (leb (b.start % 64) (p % 64)) refl
    where
      by : (v : Bool) → leb (b.start % 64) (p % 64) ≡ v → (v && bit b.bits (p % 64 - b.start % 64)) ≡ is_set p b
      by true d =
          let l = leb-true (b.start % 64) (p % 64) d in
          let same : p % 64 - b.start % 64 ≡ p - b.start = omega arith in
          ap (bit b.bits) same ∙ sym (ap (λ v. v && bit b.bits (p - b.start)) (covers-to b p (omega arith) (omega arith)))
      by false d =
          let l = leb-false (b.start % 64) (p % 64) d in
          sym (ap (λ v. v && bit b.bits (p - b.start)) (covers-below b p (omega arith)))

  pub block-next : (p : ℕ) → p / 64 ≡ b.start / 64 + 1 → bit over (p % 64) ≡ is_set p b
  block-next p e = g (p % 64) (omega arith) ∙ by (ltb (p % 64) (b.start % 64)) refl
    where
      by : (v : Bool) → ltb (p % 64) (b.start % 64) ≡ v → (v && bit b.bits (p % 64 + 64 - b.start % 64)) ≡ is_set p b
      by true d =
          let l = ltb-true (p % 64) (b.start % 64) d in
          let same : p % 64 + 64 - b.start % 64 ≡ p - b.start = omega arith in
          ap (bit b.bits) same ∙ sym (ap (λ v. v && bit b.bits (p - b.start)) (covers-to b p (omega arith) (omega arith)))
      by false d =
          let l = ltb-false (p % 64) (b.start % 64) d in
          sym (ap (λ v. v && bit b.bits (p - b.start)) (covers-above b p (omega arith)))

  pub block-else : (p : ℕ) → (p / 64 ≡ b.start / 64 → ⊥) → (p / 64 ≡ b.start / 64 + 1 → ⊥) → is_set p b ≡ false
  block-else p h k = by (ltb p b.start) refl
    where
      by : (v : Bool) → ltb p b.start ≡ v → is_set p b ≡ false
      by true d = ap (λ v. v && bit b.bits (p - b.start)) (covers-below b p (ltb-true p b.start d))
      by false d = let l = ltb-false p b.start d in ap (λ v. v && bit b.bits (p - b.start)) (covers-above b p (omega arith))
