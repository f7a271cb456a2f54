use Rattle.std.proofs.Common.{sym, subst}
use Rattle.adr_schedule.specs.Tally.{AreRising}
use Rattle.adr_schedule.proofs.Counted.{rising_distinct}
use Rattle.adr_schedule.proofs.Shifts.{none_left}
use Rattle.adr_schedule.proofs.tally.ascend.Goals as goal

pub returns : goal.returns
returns c = λ _. rising_distinct c.args.places.now (c.rest.invariant (subst (λ l. AreRising l) (sym (none_left c.rest.rest.now c.in_default.ensures.cases)) tt))
