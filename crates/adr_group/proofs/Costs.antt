-- What comparing entries costs.
use Rattle.std.proofs.Common.{ℕ, ◌+◌, ◌*◌, ◌≤◌, arith}
use Rattle.std.proofs.lemmas.Nat.{mul-le}

-- more entries may compare more
pub cost_rises : (k n : ℕ) → k ≤ n → k * (2 * k + 1) ≤ n * (2 * n + 1)
cost_rises k n le = mul-le k (2 * k + 1) n (2 * n + 1) le (omega (arith, le))
