use Rattle.std.proofs.Common.{subst}
use Rattle.adr_schedule.specs.Seating.{Seating}
use Rattle.adr_schedule.specs.Slots.{AreSeated}
use Rattle.adr_schedule.proofs.Places.{group_there}
use Rattle.adr_schedule.proofs.schedule.Schedule.schedule_laws.Goals as goal

pub returns : goal.returns
returns c = group_there c.args.self.now (subst (λ (x : Seating). AreSeated x.seats x.groups) c.self.view_is c.self.invariant)
