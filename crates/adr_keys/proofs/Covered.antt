-- Sets of places, by their blocks.
use Rattle.std.proofs.Common.{◌≡◌, ℕ, ◌+◌, ◌-◌, ◌<◌, ◌≤◌, Bool, true, false, ◌&&◌, ◌||◌, cond, eqb, ltb, leb, List, [], ◌∷◌, ◌++◌, filter, length, get_or, set, take, zero, suc, refl, ap, sym, ◌∙◌, arith, ltb-true, ltb-false, lt-ltb, le-ltb, leb-true, le-leb, eqb-true, eq-eqb, ne_eqb}
use Rattle.std.proofs.lemmas.Bool.{false≢true, eqb-false}
use Rattle.std.proofs.lemmas.List.Folds.{list_any-append}
use Rattle.std.specs.List.{list_any}
use Rattle.adr_keys.specs.Blocks.{covers, is_set, includes, has_block}
use Rattle.adr_keys.specs.Places.{bit, before_closing}
use Rattle.adr_keys.specs.declared.blocks.Block.{Block}
use Rattle.adr_keys.proofs.Words.{nothing, or_false}

pub includes-read : (bs : List Block) (p : ℕ) → includes bs p ≡ list_any (is_set p) bs
unfolding includes
includes-read bs p = refl

pub has_block-read : (bs : List Block) (p : ℕ) → has_block bs p ≡ list_any (covers p) bs
unfolding has_block
has_block-read bs p = refl

pub includes-nil : (p : ℕ) → includes [] p ≡ false
includes-nil p = includes-read [] p

or_false_and : (c : Bool) → (c && false) ≡ false
or_false_and true = refl
or_false_and false = refl

-- ---- lists of blocks

pub any-at : (f : Block → Bool) (bs : List Block) (i : ℕ) (d : Block) → i < length bs → f (get_or bs i d) ≡ true → list_any f bs ≡ true
any-at f [] i d h e = absurd (omega arith)
any-at f (b ∷ bs) zero d h e = ap (λ x. x || list_any f bs) e
any-at f (b ∷ bs) (suc i) d h e = ap (λ x. f b || x) (any-at f bs i d (omega arith) e) ∙ or_true (f b)
  where
    or_true : (x : Bool) → (x || true) ≡ true
    or_true true = refl
    or_true false = refl

-- a block is written that has more
pub any-put : (f : Block → Bool) (c : Bool) (bs : List Block) (i : ℕ) (x y : Block) → i < length bs → x ≡ get_or bs i x → f y ≡ (c || f x) → list_any f (set bs i y) ≡ (c || list_any f bs)
any-put f c [] i x y h e k = absurd (omega arith)
any-put f c (b ∷ bs) zero x y h e k = ap (λ v. v || list_any f bs) (k ∙ ap (λ z. c || f z) e) ∙ or_more c (f b) (list_any f bs)
  where
    or_more : (a b d : Bool) → ((a || b) || d) ≡ (a || (b || d))
    or_more true b d = refl
    or_more false b d = refl
any-put f c (b ∷ bs) (suc i) x y h e k = ap (λ v. f b || v) (any-put f c bs i x y (omega arith) e k) ∙ or_swap (f b) c (list_any f bs)
  where
    or_swap : (a b d : Bool) → (a || (b || d)) ≡ (b || (a || d))
    or_swap true true d = refl
    or_swap true false d = refl
    or_swap false b d = refl

pub any-and : (c : Bool) (f : Block → Bool) (bs : List Block) → list_any (λ b. c && f b) bs ≡ (c && list_any f bs)
any-and true f bs = refl
any-and false f [] = refl
any-and false f (b ∷ bs) = any-and false f bs

pub any-all : (f g : Block → Bool) (old now : List Block) (i : ℕ) → length now ≡ length old → length old ≤ i → list_any f (take i now) ≡ list_any g (take i old) → list_any f now ≡ list_any g old
any-all f g old now i l h s = ap (list_any f) (sym (take_all' now i (omega arith))) ∙ s ∙ ap (list_any g) (take_all' old i h)
  where
    take_all' : (xs : List Block) (j : ℕ) → length xs ≤ j → take j xs ≡ xs
    take_all' [] zero k = refl
    take_all' [] (suc j) k = refl
    take_all' (b ∷ bs) zero k = absurd (omega arith)
    take_all' (b ∷ bs) (suc j) k = ap (λ xs. b ∷ xs) (take_all' bs j (omega arith))

-- blocks that have no place are left out
pub any-filter : (f test : Block → Bool) (bs : List Block) → ((b : Block) → test b ≡ false → f b ≡ false) → list_any f (filter test bs) ≡ list_any f bs
any-filter f test [] h = refl
any-filter f test (b ∷ bs) h = by (test b) refl (any-filter f test bs h)
  where
    by : (v : Bool) → test b ≡ v → list_any f (filter test bs) ≡ list_any f bs → list_any f (cond v (b ∷ filter test bs) (filter test bs)) ≡ (f b || list_any f bs)
    by true e rest = ap (λ x. f b || x) rest
    by false e rest = rest ∙ sym (ap (λ x. x || list_any f bs) (h b e))

-- ---- one block

pub empty-block : (b : Block) (p : ℕ) → b.bits ≡ 0 → is_set p b ≡ false
empty-block b p e = ap (λ x. covers p b && bit x (p - b.start)) e ∙ ap (λ v. covers p b && v) (nothing (p - b.start)) ∙ or_false_and (covers p b)

pub covers-from : (b : Block) (p : ℕ) → covers p b ≡ true → (b.start ≤ p) × (p < b.start + 64)
covers-from b p h = by (leb b.start p) (ltb p (b.start + 64)) refl refl h
  where
    by : (u v : Bool) → leb b.start p ≡ u → ltb p (b.start + 64) ≡ v → (u && v) ≡ true → (b.start ≤ p) × (p < b.start + 64)
    by true true d e k = (leb-true b.start p d, ltb-true p (b.start + 64) e)
    by true false d e k = absurd (false≢true k)
    by false v d e k = absurd (false≢true k)

pub covers-to : (b : Block) (p : ℕ) → b.start ≤ p → p < b.start + 64 → covers p b ≡ true
covers-to b p h k = ap (λ u. u && ltb p (b.start + 64)) (le-leb b.start p h) ∙ lt-ltb p (b.start + 64) k

pub covers-below : (b : Block) (p : ℕ) → p < b.start → covers p b ≡ false
covers-below b p h = by (leb b.start p) refl
  where
    by : (u : Bool) → leb b.start p ≡ u → (u && ltb p (b.start + 64)) ≡ false
    by true e = absurd (let l = leb-true b.start p e in omega arith)
    by false e = refl

pub covers-above : (b : Block) (p : ℕ) → b.start + 64 ≤ p → covers p b ≡ false
covers-above b p h = ap (λ u. leb b.start p && u) (le-ltb p (b.start + 64) h) ∙ or_false_and (leb b.start p)

module _ (b : Block) (new : ℕ) (place : ℕ) (own : covers place b ≡ true) where
  at : (p : ℕ) → covers p b ≡ true → eqb (p - b.start) (place - b.start) ≡ eqb p place
  at p h = let x = covers-from b p h in let y = covers-from b place own in by (eqb p place) refl x y
    where
      by : (v : Bool) → eqb p place ≡ v → ((b.start ≤ p) × (p < b.start + 64)) → ((b.start ≤ place) × (place < b.start + 64)) → eqb (p - b.start) (place - b.start) ≡ v
      by true e x y = ap (λ q. eqb (q - b.start) (place - b.start)) (eqb-true p place e) ∙ eq-eqb (place - b.start) (place - b.start) refl
      by false e x y = ne_eqb (p - b.start) (place - b.start) (λ q. eqb-false p place e (omega (arith, x.0, y.0)))

-- an empty block is added
pub includes-more : (bs : List Block) (b : Block) (p : ℕ) → b.bits ≡ 0 → includes (bs ++ b ∷ []) p ≡ includes bs p
includes-more bs b p e =
    includes-read (bs ++ b ∷ []) p ∙ list_any-append (is_set p) bs (b ∷ []) ∙ ap (λ v. list_any (is_set p) bs || (v || false)) (empty-block b p e) ∙ or_false (list_any (is_set p) bs) ∙ sym (includes-read bs p)

pub has_block-more : (bs : List Block) (b : Block) (p : ℕ) → has_block (bs ++ b ∷ []) p ≡ (has_block bs p || covers p b)
has_block-more bs b p =
    has_block-read (bs ++ b ∷ []) p ∙ list_any-append (covers p) bs (b ∷ []) ∙ ap (λ v. list_any (covers p) bs || v) (or_false (covers p b)) ∙ ap (λ v. v || covers p b) (sym (has_block-read bs p))

-- ---- a place that is closed

module _ (b : Block) (place : ℕ) where
  low : (p : ℕ) → p < place → is_set p b ≡ is_set (before_closing place p) b
  low p h = ap (λ x. is_set (cond x p (p + 1)) b) (sym (lt-ltb p place h))

  high : (p : ℕ) → place ≤ p → is_set (p + 1) b ≡ is_set (before_closing place p) b
  high p h = ap (λ x. is_set (cond x p (p + 1)) b) (sym (le-ltb p place h))

  out : (p : ℕ) → covers p b ≡ false → is_set p b ≡ false
  out p e = ap (λ v. v && bit b.bits (p - b.start)) e

  out' : (s n p : ℕ) → covers p (record { start = s; bits = n }) ≡ false → is_set p (record { start = s; bits = n }) ≡ false
  out' s n p e = ap (λ v. v && bit n (p - s)) e

  -- the place is in the block
  pub close-in : (new : ℕ) → bit b.bits 64 ≡ false → covers place b ≡ true → ((i : ℕ) → i < 64 → bit new i ≡ cond (ltb i (place - b.start)) (bit b.bits i) (bit b.bits (i + 1)))
      → (p : ℕ) → is_set p (record { start = b.start; bits = new }) ≡ is_set (before_closing place p) b
  close-in new small own f p = by (covers p b) refl (ltb p place) refl
    where
      x : (b.start ≤ place) × (place < b.start + 64)
      x = covers-from b place own

      by : (u : Bool) → covers p b ≡ u → (v : Bool) → ltb p place ≡ v → (covers p b && bit new (p - b.start)) ≡ is_set (before_closing place p) b
      by true e true d =
          let k = ltb-true p place d in
          let y = covers-from b p e in
          let o = x in
          ap (λ u. u && bit new (p - b.start)) e ∙ f (p - b.start) (omega (arith, y.0, y.1))
          ∙ ap (λ t. cond t (bit b.bits (p - b.start)) (bit b.bits (p - b.start + 1))) (lt-ltb (p - b.start) (place - b.start) (omega (arith, y.0, o.0)))
          ∙ sym (ap (λ u. u && bit b.bits (p - b.start)) e) ∙ low p k
      by true e false d =
          let k = ltb-false p place d in
          let y = covers-from b p e in
          let o = x in
          ap (λ u. u && bit new (p - b.start)) e ∙ f (p - b.start) (omega (arith, y.0, y.1))
          ∙ ap (λ t. cond t (bit b.bits (p - b.start)) (bit b.bits (p - b.start + 1))) (le-ltb (p - b.start) (place - b.start) (omega (arith, y.0, o.0)))
          ∙ next (ltb (p + 1) (b.start + 64)) refl y ∙ high p k
        where
          next : (w : Bool) → ltb (p + 1) (b.start + 64) ≡ w → ((b.start ≤ p) × (p < b.start + 64)) → bit b.bits (p - b.start + 1) ≡ is_set (p + 1) b
          next true g y =
              let same : p - b.start + 1 ≡ p + 1 - b.start = omega (arith, y.0) in
              ap (bit b.bits) same ∙ sym (ap (λ u. u && bit b.bits (p + 1 - b.start)) (covers-to b (p + 1) (omega (arith, y.0)) (ltb-true (p + 1) (b.start + 64) g)))
          next false g y =
              let m = ltb-false (p + 1) (b.start + 64) g in
              let top : p - b.start + 1 ≡ 64 = omega (arith, y.0, y.1) in
              ap (bit b.bits) top ∙ small ∙ sym (out (p + 1) (covers-above b (p + 1) m))
      by false e true d = ap (λ u. u && bit new (p - b.start)) e ∙ sym (out p e) ∙ low p (ltb-true p place d)
      by false e false d =
          let k = ltb-false p place d in
          let o = x in
          ap (λ u. u && bit new (p - b.start)) e ∙ sym (out (p + 1) (covers-above b (p + 1) (above (ltb p (b.start + 64)) refl k o))) ∙ high p k
        where
          above : (w : Bool) → ltb p (b.start + 64) ≡ w → place ≤ p → ((b.start ≤ place) × (place < b.start + 64)) → b.start + 64 ≤ p + 1
          above true g k o = absurd (false≢true (sym e ∙ covers-to b p (omega (arith, o.0)) (ltb-true p (b.start + 64) g)))
          above false g k o = let m = ltb-false p (b.start + 64) g in omega arith
