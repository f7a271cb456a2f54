-- Look-ups by numbers, and lists with one element changed.
use Rattle.std.proofs.Common.{◌≡◌, ℕ, zero, suc, ◌==◌, ◌||◌, ◌⊎◌, inl, inr, Bool, true, false, cond, List, [], ◌∷◌, set, length, slice_get, Some, None, refl, ap, ◌∙◌, eqb-true, eq-eqb}
use Rattle.std.specs.Str.{bytes_eq}
use Rattle.std.proofs.lemmas.Slice.Eq.{bytes_eq-Decides}
use Rattle.adr_shared.specs.Map.{put, without}
use Rattle.adr_shared.proofs.LookUps.{put_is_found, taken_is_gone}
use Rattle.adr_schedule.specs.Slots.{in_slot, is_taken}

same_code : (n w : ℕ) → n ≡ w → bytes_eq (n ∷ []) (w ∷ []) ≡ true
same_code n w e = (bytes_eq-Decides (n ∷ []) (w ∷ [])).1 (ap (λ k. k ∷ []) e)

other_code : (n w : ℕ) → (n ≡ w → ⊥) → bytes_eq (n ∷ []) (w ∷ []) ≡ false
other_code n w apart = by (bytes_eq (n ∷ []) (w ∷ [])) refl
  where
    head : n ∷ [] ≡ w ∷ [] → n ≡ w
    head h = cc

    by : (b : Bool) → bytes_eq (n ∷ []) (w ∷ []) ≡ b → b ≡ false
    by false e = refl
    by true e = absurd (apart (head ((bytes_eq-Decides (n ∷ []) (w ∷ [])).0 e)))

module _ {G : Type 0} (values : List (List ℕ × G)) where
  pub put_here : (n : ℕ) (v : G) → in_slot (put (n ∷ []) v values) n ≡ Some v
  put_here n v = put_is_found values (n ∷ []) v (n ∷ []) ∙ ap (λ b. cond b (Some v) (in_slot values n)) (same_code n n refl)

  pub put_elsewhere : (n m : ℕ) (v : G) → (m ≡ n → ⊥) → in_slot (put (n ∷ []) v values) m ≡ in_slot values m
  put_elsewhere n m v apart = put_is_found values (n ∷ []) v (m ∷ []) ∙ ap (λ b. cond b (Some v) (in_slot values m)) (other_code m n apart)

  pub taken_elsewhere : (n m : ℕ) → (m ≡ n → ⊥) → in_slot (without (n ∷ []) values) m ≡ in_slot values m
  taken_elsewhere n m apart = taken_is_gone values (n ∷ []) (m ∷ []) ∙ ap (λ b. cond b None (in_slot values m)) (other_code m n apart)

  pub taken_here : (n : ℕ) → in_slot (without (n ∷ []) values) n ≡ None
  taken_here n = taken_is_gone values (n ∷ []) (n ∷ []) ∙ ap (λ b. cond b None (in_slot values n)) (same_code n n refl)

-- two numbers are one or not
pub one_or_other : (n m : ℕ) → (n ≡ m) ⊎ (n ≡ m → ⊥)
one_or_other n m = by (n == m) refl
  where
    by : (b : Bool) → (n == m) ≡ b → (n ≡ m) ⊎ (n ≡ m → ⊥)
    by true e = inl (eqb-true n m e)
    by false e = inr (λ s. apart s)
      where
        apart : n ≡ m → ⊥
        apart s = let h : (n == m) ≡ true = eq-eqb n m s in absurd (cc)

-- ---- one element changed

pub set_here : {X : Type 0} (xs : List X) (p : ℕ) (x y : X) → slice_get xs p ≡ Some x → slice_get (set xs p y) p ≡ Some y
set_here [] p x y h = absurd (cc)
set_here (z ∷ zs) zero x y h = refl
set_here (z ∷ zs) (suc p) x y h = set_here zs p x y h

pub set_elsewhere : {X : Type 0} (xs : List X) (p q : ℕ) (y : X) → (q ≡ p → ⊥) → slice_get (set xs p y) q ≡ slice_get xs q
set_elsewhere [] p q y apart = refl
set_elsewhere (z ∷ zs) zero zero y apart = absurd (apart refl)
set_elsewhere (z ∷ zs) zero (suc q) y apart = refl
set_elsewhere (z ∷ zs) (suc p) zero y apart = refl
set_elsewhere (z ∷ zs) (suc p) (suc q) y apart = set_elsewhere zs p q y (λ e. apart (ap (λ n. suc n) e))

pub set_count : {X : Type 0} (xs : List X) (p : ℕ) (y : X) → length (set xs p y) ≡ length xs
set_count [] p y = refl
set_count (z ∷ zs) zero y = refl
set_count (z ∷ zs) (suc p) y = ap (λ n. suc n) (set_count zs p y)

-- ---- taken slots

-- a slot that some place has is taken
pub has_place : (seats : List ℕ) (p s : ℕ) → slice_get seats p ≡ Some s → is_taken seats s ≡ true
has_place [] p s h = absurd (cc)
has_place (x ∷ xs) zero s h = let e : Some x ≡ Some s = h in let same : x ≡ s = cc in rw (eq-eqb x s same) refl
has_place (x ∷ xs) (suc p) s h = either (x == s) (is_taken xs s) (has_place xs p s h)
  where
    either : (a b : Bool) → b ≡ true → (a || b) ≡ true
    either true b h = refl
    either false b h = h

-- and a taken slot is some place's
pub place_of_taken : (seats : List ℕ) (s : ℕ) → is_taken seats s ≡ true → (p : ℕ) × (slice_get seats p ≡ Some s)
place_of_taken [] s h = absurd (cc)
place_of_taken (x ∷ xs) s h = by (x == s) refl h (place_of_taken xs s)
  where
    by : (b : Bool) → (x == s) ≡ b → (b || is_taken xs s) ≡ true → (is_taken xs s ≡ true → (p : ℕ) × (slice_get xs p ≡ Some s)) → (p : ℕ) × (slice_get (x ∷ xs) p ≡ Some s)
    by true e k later = (zero, ap (λ n. Some n) (eqb-true x s e))
    by false e k later = let r = later k in (suc r.0, r.1)
