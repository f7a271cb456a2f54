use Rattle.std.proofs.Common.{◌∙◌, ◌-◌, ◌<◌, slice_index_or, length, arith}
use Rattle.adr_value.proofs.ShortLemmas.{next_room, next_digit}
use Rattle.adr_value.proofs.decimal.word_of_digits.Goals as goal

pub overflow_mul-number : goal.overflow_mul-number
overflow_mul-number c =
    let room = next_room c.loop-digit.number 0 (length c.args.digits.now) c.loop-digit.digit-index (omega arith) c.loop-digit-test.true c.loop-digit.invariant.room in
    omega arith

pub overflow_add-number : goal.overflow_add-number
overflow_add-number c =
    let digit = c.requires.digits c.loop-digit.digit-index c.loop-digit-test.true in
    let small : slice_index_or c.args.digits.now c.loop-digit.digit-index 0 - 48 < 10 = omega (arith, digit) in
    let room = next_room c.loop-digit.number _ (length c.args.digits.now) c.loop-digit.digit-index small c.loop-digit-test.true c.loop-digit.invariant.room in
    omega arith

pub loop-digit-preserved : goal.loop-digit-preserved
loop-digit-preserved c =
    let digit = c.requires.digits c.loop-digit.digit-index c.loop-digit-test.true in
    let small : slice_index_or c.args.digits.now c.loop-digit.digit-index 0 - 48 < 10 = omega (arith, digit) in
    record {
      left = c.loop-digit.invariant.left ∙ next_digit c.loop-digit.number c.args.digits.now c.loop-digit.digit-index c.loop-digit-test.true;
      room = (next_room c.loop-digit.number _ (length c.args.digits.now) c.loop-digit.digit-index small c.loop-digit-test.true c.loop-digit.invariant.room).1;
    }
