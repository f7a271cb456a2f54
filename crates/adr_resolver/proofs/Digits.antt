-- How long the numbers of short replies are.
use Rattle.std.proofs.Common.{ℕ, ◌<◌, ◌≤◌, ◌^◌, length, lit<, arith}
use Rattle.std.specs.Fmt.{decimal}
use Rattle.std.proofs.lemmas.Fmt.{length-decimal-le}

pub thirteen_digits : (n : ℕ) → n < 10 ^ 13 → length (decimal n) ≤ 13
thirteen_digits n h = length-decimal-le 13 n (lit< tt) h (omega (arith, h))
