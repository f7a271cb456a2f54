use Rattle.std.proofs.Common.{◌∙◌, sym}
use Rattle.std.proofs.lemmas.Bool.{eqb-true}
use Rattle.adr_value.proofs.ShortLemmas.{all_digits, whole_spelled}
use Rattle.adr_value.proofs.decimal.is_short_whole.Goals as goal

pub returns-clause-digits : goal.returns-clause-digits
returns-clause-digits c = λ h. all_digits c.args.text.now (sym c.count_digits.ensures.value ∙ eqb-true _ _ h)

pub returns-clause-spelled : goal.returns-clause-spelled
returns-clause-spelled c = λ h.
    whole_spelled c.args.text.now (sym c.count_digits.ensures.value ∙ eqb-true _ _ h)
    (sym c.is_empty.ensures ∙ c.if-is_empty.false) (sym c.leads_with_zero.ensures ∙ c.if-leads_with_zero.false)
