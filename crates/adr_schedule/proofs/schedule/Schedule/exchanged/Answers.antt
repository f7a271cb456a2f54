use Rattle.std.proofs.Common.{sym}
use Rattle.adr_schedule.specs.Seating.{Seating}
use Rattle.adr_schedule.specs.Shift.{Becomes}
use Rattle.adr_schedule.proofs.Exchanged.{moved_as}
use Rattle.adr_schedule.proofs.Shifts.{is_shifted, right_shifted}
use Rattle.adr_schedule.proofs.schedule.Schedule.exchanged.Goals as goal

pub returns-clause-shifted : goal.returns-clause-shifted
returns-clause-shifted c change indexes places all are =
    let s : Seating = record { seats = c.self.inside.seats; groups = c.self.inside.groups } in
    let after : Seating = record { seats = s.seats; groups = c.in_ok-groups.groups } in
    let moved = moved_as (Becomes change indexes) s _ (sym c.self.view_is) places c.args.slots.now c.args.made.now after.groups c.in_ok-groups.ensures.groups all are in
    rw (← c.self.view_is, c.in_ok-seats.ensures) (is_shifted change indexes places s after c.self.invariant moved)

pub returns-clause-right : goal.returns-clause-right
returns-clause-right c change indexes places all are =
    let s : Seating = record { seats = c.self.inside.seats; groups = c.self.inside.groups } in
    let after : Seating = record { seats = s.seats; groups = c.in_ok-groups.groups } in
    let moved = moved_as (Becomes change indexes) s _ (sym c.self.view_is) places c.args.slots.now c.args.made.now after.groups c.in_ok-groups.ensures.groups all are in
    rw (← c.self.view_is, c.in_ok-seats.ensures) (right_shifted change indexes places s after c.self.invariant moved)
