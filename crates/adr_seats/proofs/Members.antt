-- How many places have a slot, as places come, change and go.
use Rattle.std.proofs.Common.{◌≡◌, ℕ, ◌<◌, ◌≤◌, ◌+◌, ◌||◌, [], ◌∷◌, true, false, not, cond, eqb, Bool, List, length, filter, get_or, set, remove, zero, suc, refl, ap, sym, ◌∙◌, arith, eq-eqb, ne_eqb}
use Rattle.std.specs.List.{list_any}
use Rattle.adr_seats.specs.Seats.{members_of}

-- a place that is first
pub members-first : (slot x : ℕ) (xs : List ℕ) → members_of slot (x ∷ xs) ≡ members_of slot xs + cond (eqb x slot) 1 0
members-first slot x xs = by (eqb x slot)
  where
    by : (b : Bool) → length (cond b (x ∷ filter (λ s. eqb s slot) xs) (filter (λ s. eqb s slot) xs)) ≡ members_of slot xs + cond b 1 0
    by true = omega arith
    by false = omega arith

-- a place that is given another slot
pub members-set : (slot x d : ℕ) (xs : List ℕ) (place : ℕ) → place < length xs
    → members_of slot (set xs place x) + cond (eqb (get_or xs place d) slot) 1 0 ≡ members_of slot xs + cond (eqb x slot) 1 0
members-set slot x d [] place l = absurd (omega arith)
members-set slot x d (y ∷ ys) zero l = omega (arith, members-first slot x ys, members-first slot y ys)
members-set slot x d (y ∷ ys) (suc place) l = omega (arith, members-first slot y (set ys place x), members-set slot x d ys place (omega arith), members-first slot y ys)

-- a place that goes
pub members-remove : (slot d : ℕ) (xs : List ℕ) (place : ℕ) → place < length xs
    → members_of slot (remove xs place) + cond (eqb (get_or xs place d) slot) 1 0 ≡ members_of slot xs
members-remove slot d [] place l = absurd (omega arith)
members-remove slot d (y ∷ ys) zero l = sym (members-first slot y ys)
members-remove slot d (y ∷ ys) (suc place) l = omega (arith, members-first slot y (remove ys place), members-remove slot d ys place (omega arith), members-first slot y ys)

-- at most one place more
members-more : (slot x : ℕ) (xs : List ℕ) → members_of slot (x ∷ xs) ≤ members_of slot xs + 1
members-more slot x xs = by (eqb x slot) (members-first slot x xs)
  where
    by : (b : Bool) → members_of slot (x ∷ xs) ≡ members_of slot xs + cond b 1 0 → members_of slot (x ∷ xs) ≤ members_of slot xs + 1
    by true e = omega (arith, e)
    by false e = omega (arith, e)

-- no more places have the slot than there are
pub members-bound : (slot : ℕ) (xs : List ℕ) → members_of slot xs ≤ length xs
members-bound slot [] = omega arith
members-bound slot (x ∷ xs) = omega (arith, members-more slot x xs, members-bound slot xs)

any-first : (slot x : ℕ) (xs : List ℕ) → list_any (λ s. eqb s slot) xs ≡ not (eqb (members_of slot xs) 0) → list_any (λ s. eqb s slot) (x ∷ xs) ≡ not (eqb (members_of slot (x ∷ xs)) 0)
any-first slot x xs h = by (eqb x slot)
  where
    by : (b : Bool) → (b || list_any (λ s. eqb s slot) xs) ≡ not (eqb (length (cond b (x ∷ filter (λ s. eqb s slot) xs) (filter (λ s. eqb s slot) xs))) 0)
    by true = sym (ap not (ne_eqb (suc (members_of slot xs)) 0 (λ z. omega arith)))
    by false = h

-- a place has the slot where their number is not zero
pub members-any : (slot : ℕ) (xs : List ℕ) → list_any (λ s. eqb s slot) xs ≡ not (eqb (members_of slot xs) 0)
members-any slot [] = refl
members-any slot (x ∷ xs) = any-first slot x xs (members-any slot xs)

-- a slot that no place has
pub members-none : (slot : ℕ) (xs : List ℕ) → members_of slot xs ≡ 0 → list_any (λ s. eqb s slot) xs ≡ false
members-none slot xs e = members-any slot xs ∙ ap (λ n. not (eqb n 0)) e

-- the slot of a place has one
pub members-some : (d : ℕ) (xs : List ℕ) (place : ℕ) → place < length xs → 0 < members_of (get_or xs place d) xs
members-some d xs place l =
    let x = get_or xs place d in
    let one : ◌≡◌ {A = ℕ} (cond (eqb x x) 1 0) 1 = ap {B = ℕ} (λ b. cond b 1 0) (eq-eqb x x refl) in
    omega (arith, members-remove x d xs place l, one)

-- the number of a slot, when a place with the slot `x` goes
pub counted-less : (slot x : ℕ) (xs : List ℕ) (place before after : ℕ) → place < length xs → x ≡ get_or xs place x → after + cond (eqb x slot) 1 0 ≡ before → before ≡ members_of slot xs → after ≡ members_of slot (remove xs place)
counted-less slot x xs place before after l is e i =
    let m : members_of slot (remove xs place) + cond (eqb x slot) 1 0 ≡ members_of slot xs = ap (λ y. members_of slot (remove xs place) + cond (eqb y slot) 1 0) is ∙ members-remove slot x xs place l in
    omega (arith, m, e, i)

-- the number of a slot, when the place with the slot `x` is given the slot `y`
pub counted-set : (slot x y : ℕ) (xs : List ℕ) (place before between after : ℕ) → place < length xs → x ≡ get_or xs place x
    → between + cond (eqb x slot) 1 0 ≡ before → after ≡ between + cond (eqb y slot) 1 0 → before ≡ members_of slot xs → after ≡ members_of slot (set xs place y)
counted-set slot x y xs place before between after l is e f i =
    let m : members_of slot (set xs place y) + cond (eqb x slot) 1 0 ≡ members_of slot xs + cond (eqb y slot) 1 0 = ap (λ z. members_of slot (set xs place y) + cond (eqb z slot) 1 0) is ∙ members-set slot y x xs place l in
    omega (arith, m, e, f, i)
