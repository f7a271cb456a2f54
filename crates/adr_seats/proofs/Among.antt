-- The places of a slot, among some places.
use Rattle.std.proofs.Common.{◌≡◌, ℕ, ◌<◌, ◌≤◌, ◌+◌, ◌||◌, [], ◌∷◌, true, false, cond, eqb, Bool, List, Some, length, filter, get_or, set, zero, suc, refl, ap, sym, ◌∙◌, arith, eq-eqb, ne_eqb, eqb-true}
use Rattle.std.proofs.lemmas.Bool.{eqb-false, false≢true}
use Rattle.std.specs.List.{range_with_len, slice_get}
use Rattle.std.specs.Option.{option_map_or}
use Rattle.adr_seats.specs.Seats.{members_of}
use Rattle.adr_seats.specs.Law.{has_slot, is_among, AreDistinct}
use Rattle.adr_seats.proofs.Members.{members-set}

-- another place is as it was
get-set-other : (xs : List ℕ) (p q x : ℕ) → (q ≡ p → ⊥) → slice_get (set xs p x) q ≡ slice_get xs q
get-set-other [] p q x h = refl
get-set-other (y ∷ ys) zero zero x h = absurd (h refl)
get-set-other (y ∷ ys) zero (suc q) x h = refl
get-set-other (y ∷ ys) (suc p) zero x h = refl
get-set-other (y ∷ ys) (suc p) (suc q) x h = get-set-other ys p q x (λ e. h (ap suc e))

-- what a place that has the slot is
is-within : (xs : List ℕ) (slot p : ℕ) → has_slot xs slot p ≡ true → p < length xs
is-within [] slot p h = absurd (false≢true h)
is-within (x ∷ xs) slot zero h = omega arith
is-within (x ∷ xs) slot (suc p) h = let l = is-within xs slot p h in omega arith

is-slot : (xs : List ℕ) (slot p : ℕ) → has_slot xs slot p ≡ true → get_or xs p 0 ≡ slot
is-slot [] slot p h = absurd (false≢true h)
is-slot (x ∷ xs) slot zero h = eqb-true x slot h
is-slot (x ∷ xs) slot (suc p) h = is-slot xs slot p h

-- one place less has the slot, when one that has it is given the next
less : (xs : List ℕ) (slot p : ℕ) → has_slot xs slot p ≡ true → members_of slot (set xs p (suc slot)) + 1 ≡ members_of slot xs
less xs slot p h =
    let had : ◌≡◌ {A = ℕ} (cond (eqb (get_or xs p 0) slot) 1 0) 1 = ap {B = ℕ} (λ b. cond b 1 0) (eq-eqb (get_or xs p 0) slot (is-slot xs slot p h)) in
    let has : ◌≡◌ {A = ℕ} (cond (eqb (suc slot) slot) 1 0) 0 = ap {B = ℕ} (λ b. cond b 1 0) (ne_eqb (suc slot) slot (λ z. omega arith)) in
    omega (arith, members-set slot (suc slot) 0 xs p (is-within xs slot p h), had, has)

or-false : (a b : Bool) → (a || b) ≡ false → a ≡ false
or-false true b h = h
or-false false b h = refl

or-rest : (a b : Bool) → (a || b) ≡ false → b ≡ false
or-rest true b h = absurd (false≢true (sym h))
or-rest false b h = h

-- places among which the place is not
filter-set : (xs : List ℕ) (slot p x : ℕ) (places : List ℕ) → is_among p places ≡ false → filter (has_slot (set xs p x) slot) places ≡ filter (has_slot xs slot) places
filter-set xs slot p x [] h = refl
filter-set xs slot p x (q ∷ qs) h =
    ap (λ o. cond (option_map_or (λ s. eqb s slot) o false) (q ∷ filter (has_slot (set xs p x) slot) qs) (filter (has_slot (set xs p x) slot) qs))
    (get-set-other xs p q x (eqb-false q p (or-false (eqb q p) (is_among p qs) h)))
    ∙ ap (λ rest. cond (has_slot xs slot q) (q ∷ rest) rest) (filter-set xs slot p x qs (or-rest (eqb q p) (is_among p qs) h))

bound-first : (xs : List ℕ) (slot q : ℕ) (qs : List ℕ) → is_among q qs ≡ false
    → ((ys : List ℕ) → length (filter (has_slot ys slot) qs) ≤ members_of slot ys) → length (filter (has_slot xs slot) (q ∷ qs)) ≤ members_of slot xs
bound-first xs slot q qs apart h = by (has_slot xs slot q) refl
  where
    by : (b : Bool) → has_slot xs slot q ≡ b → length (cond b (q ∷ filter (has_slot xs slot) qs) (filter (has_slot xs slot) qs)) ≤ members_of slot xs
    by true e = omega (arith, h (set xs q (suc slot)), ap length (filter-set xs slot q (suc slot) qs apart), less xs slot q e)
    by false e = h xs

-- no more of the places have the slot than have it at all
pub no-more : (xs : List ℕ) (slot : ℕ) (places : List ℕ) → AreDistinct places → length (filter (has_slot xs slot) places) ≤ members_of slot xs
no-more xs slot [] d = omega arith
no-more xs slot (q ∷ qs) d = bound-first xs slot q qs d.0 (λ ys. no-more ys slot qs d.1)

-- where all that have the slot are counted, each is among them
pub all-among : (xs : List ℕ) (slot : ℕ) (places : List ℕ) → AreDistinct places → length (filter (has_slot xs slot) places) ≡ members_of slot xs
    → (p : ℕ) → slice_get xs p ≡ Some slot → is_among p places ≡ true
all-among xs slot places d e p is = by (is_among p places) refl
  where
    has : has_slot xs slot p ≡ true
    has = ap (λ o. option_map_or (λ s. eqb s slot) o false) is ∙ eq-eqb slot slot refl

    by : (b : Bool) → is_among p places ≡ b → b ≡ true
    by true h = refl
    by false h = absurd (omega (arith, no-more (set xs p (suc slot)) slot places d, ap length (filter-set xs slot p (suc slot) places h), less xs slot p has, e))

-- a place before the first is not in a range
before-next : (test : ℕ → Bool) (p first : ℕ) (rest : List ℕ) → p < first → is_among p rest ≡ false → is_among p (cond (test first) (first ∷ rest) rest) ≡ false
before-next test p first rest l h = by (test first)
  where
    by : (b : Bool) → is_among p (cond b (first ∷ rest) rest) ≡ false
    by true = ap (λ b. b || is_among p rest) (ne_eqb first p (λ z. omega arith)) ∙ h
    by false = h

before-range : (test : ℕ → Bool) (p first count : ℕ) → p < first → is_among p (filter test (range_with_len first count)) ≡ false
before-range test p first zero l = refl
before-range test p first (suc n) l =
    before-next test p first (filter test (range_with_len (first + 1) n)) l (before-range test p (first + 1) n (omega arith))

distinct-next : (test : ℕ → Bool) (first : ℕ) (rest : List ℕ) → is_among first rest ≡ false → AreDistinct rest → AreDistinct (cond (test first) (first ∷ rest) rest)
distinct-next test first rest h d = by (test first)
  where
    by : (b : Bool) → AreDistinct (cond b (first ∷ rest) rest)
    by true = (h, d)
    by false = d

-- of what is found in a range none stands twice
pub found-distinct : (test : ℕ → Bool) (first count : ℕ) → AreDistinct (filter test (range_with_len first count))
found-distinct test first zero = tt
found-distinct test first (suc n) =
    distinct-next test first (filter test (range_with_len (first + 1) n)) (before-range test first (first + 1) n (omega arith)) (found-distinct test (first + 1) n)
