use Rattle.std.proofs.Common.{◌∙◌, ◌*◌, ◌^◌, ap, sym, length}
use Rattle.adr_value.proofs.ShortLemmas.{few_whole, whole_number}
use Rattle.adr_value.proofs.decimal.number_of_whole.Goals as goal

pub word_of_digits-number-requires-clause-room : goal.word_of_digits-number-requires-clause-room
word_of_digits-number-requires-clause-room c = few_whole (length c.args.text.now) c.requires.few

pub returns : goal.returns
returns c =
    sym (whole_number c.args.text.now c.lowest.result c.requires.digits c.requires.spelled c.lowest.ensures.sign
    (c.lowest.ensures.value ∙ ap (λ n. n * 10 ^ c.lowest.result.scale) c.word_of_digits-number.ensures.value) c.lowest.ensures.canonical)
