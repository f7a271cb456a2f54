use Rattle.std.proofs.Common.{◌≡◌, ◌+◌, ◌-◌, ◌*◌, ◌^◌, ◌≤◌, length, drop}
use Rattle.adr_value.specs.Value.{value_after}
use Rattle.adr_value.proofs.decimal.word_of_digits.Given as goal

abbrev pub invariant-loop-digit : goal.invariant-loop-digit
invariant-loop-digit l = record {
  left : value_after l.fn.start l.digits ≡ value_after l.number (drop l.digit-index l.digits);
  room : (l.number + 1) * 10 ^ (length l.digits - l.digit-index) ≤ 10 ^ 18;
}
