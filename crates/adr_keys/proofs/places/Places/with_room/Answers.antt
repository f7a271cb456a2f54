use Rattle.std.proofs.Common.{◌+◌, ◌/◌, ap, ◌∙◌}
use Rattle.adr_keys.specs.Places.{has}
use Rattle.adr_keys.proofs.Words.{resized, has-zeros}
use Rattle.adr_keys.proofs.places.Places.with_room.Goals as goal

pub returns-clause-empty : goal.returns-clause-empty
returns-clause-empty c = λ p. ap (λ ws. has ws p) (c.in_ok-resize.ensures.items ∙ resized 0 (c.args.count / 64 + 1) _ c.new-words.result.items c.new-words.ensures.items c.new-words.ensures.len) ∙ has-zeros (c.args.count / 64 + 1) p
