use Rattle.adr_schedule.specs.Seating.{Seating}
use Rattle.adr_schedule.proofs.Shifts.{group_there}
use Rattle.adr_schedule.proofs.schedule.Schedule.group.Goals as goal

pub returns-in_err-slot-clause-there : goal.returns-in_err-slot-clause-there
returns-in_err-slot-clause-there c =
    let s : Seating = record { seats = c.self.inside.seats; groups = c.self.inside.groups } in
    rw (← c.self.view_is) (group_there s c.self.invariant c.args.place)

pub returns-clause-there : goal.returns-clause-there
returns-clause-there c =
    let s : Seating = record { seats = c.self.inside.seats; groups = c.self.inside.groups } in
    rw (← c.self.view_is) (group_there s c.self.invariant c.args.place)
