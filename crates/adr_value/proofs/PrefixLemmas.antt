-- How far a test holds along a text.
use Rattle.std.proofs.Common.{◌≡◌, ℕ, ◌&&◌, Bool, true, false, List, [], ◌∷◌, ◌++◌, length, refl, arith}
use Rattle.std.specs.List.{list_all, prefix_len}
use Rattle.adr_value.specs.Body.{begins}

pub both_true : (a b : Bool) → (a && b) ≡ true → (a ≡ true) × (b ≡ true)
both_true true b e = (refl, e)
both_true false b e = absurd cc

-- it holds of all of a front, and not of the byte behind it
pub prefix_len-front : (test : ℕ → Bool) (front rest : List ℕ) → list_all test front ≡ true → begins test rest ≡ false
    → prefix_len test (front ++ rest) ≡ length front
prefix_len-front test [] [] all stop = refl
prefix_len-front test [] (c ∷ rest) all stop = rw stop refl
prefix_len-front test (c ∷ front) rest all stop =
    let p = both_true (test c) (list_all test front) all in
    let next = prefix_len-front test front rest p.1 stop in
    rw p.0 (omega (arith, next))
