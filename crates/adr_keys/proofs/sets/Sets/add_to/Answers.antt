use Rattle.std.proofs.Common.{◌/◌, ◌||◌, nat_lt, ap, sym, ◌∙◌}
use Rattle.adr_keys.specs.Places.{has}
use Rattle.adr_keys.specs.Blocks.{includes}
use Rattle.adr_keys.proofs.Held.{tells}
use Rattle.adr_keys.proofs.Words.{or_false}
use Rattle.adr_keys.proofs.sets.Sets.add_to.Goals as goal

pub returns-in-Some-clause-places : goal.returns-in-Some-clause-places
returns-in-Some-clause-places c = λ p h. c.add_all.ensures.places p h ∙ ap (λ o. has c.args.group.now p || tells includes o p) c.in-Some.ensures.value

pub returns-in-Some-clause-room : goal.returns-in-Some-clause-room
returns-in-Some-clause-room c = λ p. ap (λ n. nat_lt (p / 64) n) c.add_all.ensures.len

pub returns-in-None-clause-places : goal.returns-in-None-clause-places
returns-in-None-clause-places c = λ p h. sym (or_false (has c.args.group.now p)) ∙ ap (λ o. has c.args.group.now p || tells includes o p) c.in-None.ensures.value
