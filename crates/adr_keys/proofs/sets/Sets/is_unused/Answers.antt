use Rattle.std.proofs.Common.{ap, sym, ◌∙◌}
use Rattle.adr_keys.specs.Blocks.{includes}
use Rattle.adr_keys.proofs.Held.{tells}
use Rattle.adr_keys.proofs.sets.Sets.is_unused.Goals as goal

pub returns-in-Some : goal.returns-in-Some
returns-in-Some c = λ h p. ap (λ o. tells includes o p) (sym c.in-Some.ensures.value) ∙ c.is_empty.ensures h p
