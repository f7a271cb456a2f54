-- The height of a balanced tree, against how many entries it has.
use Rattle.std.proofs.Common.{◌≡◌, ℕ, ◌+◌, ◌*◌, ◌/◌, ◌^◌, ◌<◌, ◌≤◌, max, refl, sym, subst, arith, Bool, true, false, ltb}
use Rattle.std.proofs.lemmas.Bool.{ltb-true, ltb-false}
use Rattle.std.proofs.Math.Nat.{pow-le-pow_right}
use Rattle.std.proofs.lemmas.Grind.{pow_more}
use Rattle.adr_shared.specs.Sides.{DifferByAtMost}

-- powers of two grow
power_grows : (a b : ℕ) → a ≤ b → 2 ^ a ≤ 2 ^ b
power_grows a b h = pow-le-pow_right {n = 2} (omega arith) h

-- twice a power is the next
power_next : (a k : ℕ) → k ≤ a + 1 → 2 ^ k ≤ 2 ^ a * 2
power_next a k h = let grows = power_grows k (a + 1) h in subst (λ n. 2 ^ k ≤ n) (pow_more 2 a) grows

-- two sides whose heights differ by at most one, under one node
pub low_fork : (l r a b : ℕ) → DifferByAtMost 1 l r → 2 ^ (l / 2) ≤ a + 1 → 2 ^ (r / 2) ≤ b + 1 → 2 ^ ((max l r + 1) / 2) ≤ (a + 1 + b) + 1
low_fork l r a b d p q = by l r d p q (max l r) (omega (arith, d.0, d.1)) (omega (arith, d.0, d.1))
  where
    by : (l r : ℕ) → DifferByAtMost 1 l r → 2 ^ (l / 2) ≤ a + 1 → 2 ^ (r / 2) ≤ b + 1 → (m : ℕ) → m ≤ l + 1 → m ≤ r + 1 → 2 ^ ((m + 1) / 2) ≤ (a + 1 + b) + 1
    by l r d p q m u w =
        let x = power_next (l / 2) ((m + 1) / 2) (omega arith) in
        let y = power_next (r / 2) ((m + 1) / 2) (omega arith) in
        omega (arith, x, y)

-- and no side can have more entries than its height lets it
pub high_fork : (l r a b : ℕ) → a < 2 ^ l → b < 2 ^ r → a + 1 + b < 2 ^ (max l r + 1)
high_fork l r a b p q =
    let x = power_grows l (max l r) (omega arith) in
    let y = power_grows r (max l r) (omega arith) in
    subst (λ n. a + 1 + b < n) (sym (pow_more 2 (max l r))) (omega (arith, x, y, p, q))

-- a tree of fewer than 2 ^ 32 entries is at most 65 high
pub low_enough : (h n : ℕ) → 2 ^ (h / 2) ≤ n + 1 → n < 2 ^ 32 → h ≤ 65
low_enough h n p q = by (ltb 65 h) refl
  where
    by : (b : Bool) → ltb 65 h ≡ b → h ≤ 65
    by true e =
        let high : 65 < h = ltb-true 65 h e in
        let grows = power_grows 33 (h / 2) (omega arith) in
        absurd (omega (arith, grows))
    by false e = ltb-false 65 h e
