-- Sets of places, by their words.
use Rattle.std.proofs.Common.{◌≡◌, ℕ, ◌+◌, ◌/◌, ◌%◌, ◌<◌, ◌≤◌, Bool, true, false, ◌||◌, cond, eqb, ltb, List, [], ◌++◌, length, get_or, set, take, replicate, ◌-◌, refl, ap, sym, ◌∙◌, arith, eqb-true, ltb-true, ltb-false, lt-ltb, le-ltb, zero, suc}
use Rattle.std.proofs.lemmas.Bool.{eqb-false}
use Rattle.std.proofs.lemmas.List.{get_or-set_same, get_or-set_other, get_or_past, get_or-replicate, length-replicate}
use Rattle.std.proofs.lemmas.Nat.Bits.{bit_at-zero}
use Rattle.adr_keys.specs.Places.{bit, has}
use Rattle.adr_keys.proofs.Bits.{bit-ones}

pub or_false : (b : Bool) → (b || false) ≡ b
or_false true = refl
or_false false = refl

-- the set by the words: what `has` reads
pub has-read : (ws : List ℕ) (p : ℕ) → has ws p ≡ bit (get_or ws (p / 64) 0) (p % 64)
unfolding has
has-read ws p = refl

-- a word read in the list
pub bit-read : (ws : List ℕ) (i w p : ℕ) → w ≡ get_or ws i 0 → p / 64 ≡ i → bit w (p % 64) ≡ has ws p
bit-read ws i w p e q = ap (λ x. bit x (p % 64)) (e ∙ ap (λ j. get_or ws j 0) (sym q)) ∙ sym (has-read ws p)

-- a word that is written
pub has-written : (ws : List ℕ) (i w p : ℕ) → i < length ws → p / 64 ≡ i → has (set ws i w) p ≡ bit w (p % 64)
has-written ws i w p h q = has-read (set ws i w) p ∙ ap (λ x. bit x (p % 64)) (ap (λ j. get_or (set ws i w) j 0) q ∙ get_or-set_same ws i w 0 h)

pub has-others : (ws : List ℕ) (i w p : ℕ) → (p / 64 ≡ i → ⊥) → has (set ws i w) p ≡ has ws p
has-others ws i w p h = has-read (set ws i w) p ∙ ap (λ x. bit x (p % 64)) (get_or-set_other ws i (p / 64) w 0 h) ∙ sym (has-read ws p)

pub nothing : (i : ℕ) → bit 0 i ≡ false
nothing i = ap (λ x. eqb x 1) (bit_at-zero i)

pub has-nil : (p : ℕ) → has [] p ≡ false
has-nil p = has-read [] p ∙ nothing (p % 64)

-- past its words a set has nothing
pub has-past : (ws : List ℕ) (p : ℕ) → length ws ≤ p / 64 → has ws p ≡ false
has-past ws p h = has-read ws p ∙ ap (λ x. bit x (p % 64)) (get_or_past ws (p / 64) 0 h) ∙ nothing (p % 64)

-- a number is below another, equal to it or above it
pub three : {G : Type 0} (a b : ℕ) → (a < b → G) → (a ≡ b → G) → (b < a → G) → G
three {G} a b f g h = by (ltb a b) (eqb a b) refl refl
  where
    by : (p q : Bool) → ltb a b ≡ p → eqb a b ≡ q → G
    by true q d e = f (ltb-true a b d)
    by false true d e = g (eqb-true a b e)
    by false false d e = h (let x = ltb-false a b d in let y = eqb-false a b e in omega arith)

-- sets of one word again and again
pub has-zeros : (n p : ℕ) → has (replicate n 0) p ≡ false
has-zeros n p = by (ltb (p / 64) n) refl
  where
    by : (b : Bool) → ltb (p / 64) n ≡ b → has (replicate n 0) p ≡ false
    by true d = has-read (replicate n 0) p ∙ ap (λ x. bit x (p % 64)) (get_or-replicate n (p / 64) 0 0 (ltb-true (p / 64) n d)) ∙ nothing (p % 64)
    by false d = has-past (replicate n 0) p (let l = ltb-false (p / 64) n d in omega (arith, length-replicate {A = ℕ} n 0))

pub has-ones : (n p : ℕ) → p / 64 < n → has (replicate n 18446744073709551615) p ≡ true
has-ones n p h = has-read (replicate n 18446744073709551615) p ∙ ap (λ x. bit x (p % 64)) (get_or-replicate n (p / 64) 18446744073709551615 0 h) ∙ bit-ones (p % 64) (omega arith)

-- ---- word by word, up to a place in the list of words

-- what the set has so far, where the words before `index` are written: `now` of them, `old` of the others
abbrev pub so_far : ℕ → (ℕ → Bool) → (ℕ → Bool) → ℕ → Bool
so_far index now old p = cond (ltb (p / 64) index) (now p) (old p)

pub so_far-next : (ws : List ℕ) (index new : ℕ) (now old : ℕ → Bool) → index < length ws → ((p : ℕ) → has ws p ≡ so_far index now old p)
    → ((p : ℕ) → p / 64 ≡ index → bit new (p % 64) ≡ now p) → (p : ℕ) → has (set ws index new) p ≡ so_far (index + 1) now old p
so_far-next ws index new now old h i f p = three (p / 64) index
    (λ l. has-others ws index new p (λ e. omega arith) ∙ i p ∙ ap (λ x. cond x (now p) (old p)) (lt-ltb (p / 64) index l ∙ sym (lt-ltb (p / 64) (index + 1) (omega arith))))
    (λ e. has-written ws index new p h e ∙ f p e ∙ ap (λ x. cond x (now p) (old p)) (sym (lt-ltb (p / 64) (index + 1) (omega arith))))
    (λ l. has-others ws index new p (λ e. omega arith) ∙ i p ∙ ap (λ x. cond x (now p) (old p)) (le-ltb (p / 64) index (omega arith) ∙ sym (le-ltb (p / 64) (index + 1) (omega arith))))

-- the word at `index` is still the old one
pub so_far-old : (ws : List ℕ) (index w : ℕ) (now old : ℕ → Bool) → ((p : ℕ) → has ws p ≡ so_far index now old p) → w ≡ get_or ws index 0
    → (p : ℕ) → p / 64 ≡ index → bit w (p % 64) ≡ old p
so_far-old ws index w now old i e p q = bit-read ws index w p e q ∙ i p ∙ ap (λ x. cond x (now p) (old p)) (le-ltb (p / 64) index (omega arith))

-- at the end
pub so_far-all : (ws : List ℕ) (index : ℕ) (now old : ℕ → Bool) → ((p : ℕ) → has ws p ≡ so_far index now old p)
    → ((p : ℕ) → index ≤ p / 64 → old p ≡ now p) → (p : ℕ) → has ws p ≡ now p
so_far-all ws index now old i f p = i p ∙ by (ltb (p / 64) index) refl
  where
    by : (b : Bool) → ltb (p / 64) index ≡ b → cond b (now p) (old p) ≡ now p
    by true e = refl
    by false e = f p (ltb-false (p / 64) index e)

-- a list of one word again and again is made
pub resized : (v n m : ℕ) (xs : List ℕ) → xs ≡ [] → m ≡ 0 → take n xs ++ replicate (n - m) v ≡ replicate n v
resized v n m xs e z = ap (λ ys. take n ys ++ replicate (n - m) v) e ∙ ap (λ ys. ys ++ replicate (n - m) v) (take_none n) ∙ ap (λ k. replicate k v) (let q : n - m ≡ n = omega arith in q)
  where
    take_none : (k : ℕ) → take {A = ℕ} k [] ≡ []
    take_none zero = refl
    take_none (suc k) = refl
