use Rattle.std.proofs.Common.{sym}
use Rattle.adr_keys.specs.Places.{has}
use Rattle.adr_audience.proofs.Queried.{or_false}
use Rattle.adr_audience.proofs.query.add_set.Goals as goal

pub returns-in-None-clause-places : goal.returns-in-None-clause-places
returns-in-None-clause-places c = λ p h. rw c.in-None.is (sym (or_false (has c.args.group.now p)))
