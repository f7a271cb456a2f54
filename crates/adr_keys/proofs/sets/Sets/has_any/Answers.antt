use Rattle.std.proofs.Common.{ap, sym, ◌∙◌}
use Rattle.adr_keys.specs.Blocks.{includes}
use Rattle.adr_keys.proofs.Held.{tells}
use Rattle.adr_keys.proofs.sets.Sets.has_any.Goals as goal

pub returns-in-Some-clause-some : goal.returns-in-Some-clause-some
returns-in-Some-clause-some c = λ h.
    let t = c.has_any.ensures.some h in
    (t.0, ap (λ o. tells includes o t.0) (sym c.in-Some.ensures.value) ∙ t.1)

pub returns-in-Some-clause-none : goal.returns-in-Some-clause-none
returns-in-Some-clause-none c = λ h p. ap (λ o. tells includes o p) (sym c.in-Some.ensures.value) ∙ c.has_any.ensures.none h p

pub returns-in-None-clause-none : goal.returns-in-None-clause-none
returns-in-None-clause-none c = λ h p. ap (λ o. tells includes o p) (sym c.in-None.ensures.value)
