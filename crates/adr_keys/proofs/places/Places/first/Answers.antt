use Rattle.std.proofs.Common.{◌+◌, ◌/◌, ap, ◌∙◌, arith}
use Rattle.adr_keys.specs.Places.{has}
use Rattle.adr_keys.proofs.Words.{resized, has-ones}
use Rattle.adr_keys.proofs.places.Places.first.Goals as goal

pub returns-clause-full : goal.returns-clause-full
returns-clause-full c = λ p h. ap (λ ws. has ws p) (c.in_ok-resize.ensures.items ∙ resized 18446744073709551615 (c.args.count / 64 + 1) _ c.new-words.result.items c.new-words.ensures.items c.new-words.ensures.len) ∙ has-ones (c.args.count / 64 + 1) p (omega arith)
