use Rattle.std.proofs.Common.{◌∙◌, ◌*◌, ◌+◌, ◌^◌, ◌≤◌, length, ap, sym, subst, arith}
use Rattle.adr_value.specs.Value.{value_after}
use Rattle.adr_value.specs.Views.{spelling_view}
use Rattle.adr_value.proofs.ShortLemmas.{few_whole, few_more, few_are}
use Rattle.adr_value.proofs.decimal.number_of_few.Goals as goal

pub word_of_digits-whole-requires-clause-room : goal.word_of_digits-whole-requires-clause-room
word_of_digits-whole-requires-clause-room c = few_whole (length c.args.spelling.now.whole.now) (omega (arith, c.requires.digits))

pub word_of_digits-number-requires-clause-room : goal.word_of_digits-number-requires-clause-room
word_of_digits-number-requires-clause-room c =
    let spelling = c.args.spelling.now in
    subst (λ n. (n + 1) * 10 ^ length spelling.fraction.now ≤ 10 ^ 18) (sym c.word_of_digits-whole.ensures.value)
    (few_more spelling.whole.now (length spelling.fraction.now) spelling.whole_is c.requires.digits)

pub returns : goal.returns
returns c =
    let spelling = c.args.spelling.now in
    let number = c.word_of_digits-number.ensures.value ∙ ap (λ n. value_after n spelling.fraction.now) c.word_of_digits-whole.ensures.value in
    sym (few_are (spelling_view spelling) c.lowest.result spelling.whole_is spelling.fraction_is c.requires.exponent
    c.lowest.ensures.sign (c.lowest.ensures.value ∙ ap (λ n. n * 10 ^ c.lowest.result.scale) number) c.lowest.ensures.canonical)
