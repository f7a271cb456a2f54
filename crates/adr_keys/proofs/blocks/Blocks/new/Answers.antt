use Rattle.std.proofs.Common.{ap, ◌∙◌}
use Rattle.adr_keys.specs.Blocks.{includes}
use Rattle.adr_keys.proofs.Covered.{includes-nil}
use Rattle.adr_keys.proofs.blocks.Blocks.new.Goals as goal

pub returns : goal.returns
returns c = λ p. ap (λ bs. includes bs p) c.new.ensures.items ∙ includes-nil p
