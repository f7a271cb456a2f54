-- Numbers that readers have reached.
use Rattle.std.proofs.Common.{◌≡◌, ℕ, zero, suc, ◌<◌, List, [], ◌∷◌, length, get_or, set, replicate, refl, sym, ap, subst, arith}
use Rattle.std.specs.Prelude.{slice_index, slice_set, All}
use Rattle.adr_board.specs.Boards.{View, newcomer}
use Rattle.adr_board.specs.Replay.{AreReached, reach}

pub reached_length : (numbers : List ℕ) (views : List View) → AreReached numbers views → length numbers ≡ length views
reached_length [] [] r = refl
reached_length [] (v ∷ views) r = absurd r
reached_length (k ∷ numbers) [] r = absurd r
reached_length (k ∷ numbers) (v ∷ views) r = ap suc (reached_length numbers views r.1)

pub reached_at : (numbers : List ℕ) (views : List View) (i : ℕ) → AreReached numbers views → i < length views → slice_index numbers i < reach (get_or views i newcomer)
reached_at [] [] i r there = absurd (omega arith)
reached_at [] (v ∷ views) i r there = absurd r
reached_at (k ∷ numbers) [] i r there = absurd r
reached_at (k ∷ numbers) (v ∷ views) zero r there = r.0
reached_at (k ∷ numbers) (v ∷ views) (suc i) r there = reached_at numbers views i r.1 (omega arith)

-- a reader that knows of its new number
pub reached_set : (numbers : List ℕ) (views : List View) (i k : ℕ) (v : View) → AreReached numbers views → k < reach v → AreReached (slice_set numbers i k) (set views i v)
reached_set [] [] i k v r new = tt
reached_set [] (w ∷ views) i k v r new = absurd r
reached_set (n ∷ numbers) [] i k v r new = absurd r
reached_set (n ∷ numbers) (w ∷ views) zero k v r new = (new, r.1)
reached_set (n ∷ numbers) (w ∷ views) (suc i) k v r new = (r.0, reached_set numbers views i k v r.1 new)

each_reached : (views : List View) → ((i : ℕ) → i < length views → get_or views i newcomer ≡ newcomer) → AreReached (replicate (length views) 0) views
each_reached [] new = tt
each_reached (v ∷ views) new =
    let first : v ≡ newcomer = new 0 (omega arith) in
    (subst (λ (w : View). 0 < reach w) (sym first) (omega arith), each_reached views (λ i there. new (suc i) (omega arith)))

-- newcomers have all reached number 0
pub newcomers_reached : (views : List View) (readers : ℕ) → All (λ v. v ≡ newcomer) views → length views ≡ readers → AreReached (replicate readers 0) views
newcomers_reached views readers new count = subst (λ (n : ℕ). AreReached (replicate n 0) views) count (each_reached views (λ i there. new i newcomer there))
