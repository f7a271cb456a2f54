use Rattle.std.proofs.Common.{ap, ◌∙◌}
use Rattle.adr_keys.proofs.Words.{has-nil}
use Rattle.adr_keys.specs.Places.{has}
use Rattle.adr_keys.proofs.places.Places.clear.Goals as goal

pub returns : goal.returns
returns c = λ p. ap (λ ws. has ws p) c.clear.ensures.items ∙ has-nil p
