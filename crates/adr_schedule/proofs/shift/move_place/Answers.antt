use Rattle.std.proofs.Common.{◌≡◌, slice_get, Some, sym, ◌∙◌}
use Rattle.adr_schedule.specs.Shift.{Becomes}
use Rattle.adr_schedule.proofs.Least.{sat_unmoved}
use Rattle.adr_schedule.proofs.Seated.{sat_moved, sat_moving}
use Rattle.adr_schedule.proofs.shift.move_place.Goals as goal

pub returns-clause-moved : goal.returns-clause-moved
returns-clause-moved c change indexes made moving =
    let p = Becomes change indexes in
    let old = c.args.moves.now in
    let next = c.in_ok-next.next in
    let after = c.in_ok-after.after in
    let at : slice_get c.args.seats.now c.args.place ≡ Some c.in-Some.slot = sym c.slot.ensures.value ∙ c.in-Some.is in
    let g = moving.seated.held c.args.place c.in-Some.slot at in
    let goes = c.in_ok-next.ensures.next change indexes (made c.in-Some.slot at) g.0 g.1 moving in
    rw c.in_ok-after.ensures.slots
    (record {
      moving = sat_moving p c.args.seats.now c.sit.new.seats old.values next.moves.values after.values next.moves.slots c.args.place c.in-Some.slot next.slot at moving.seated goes c.in_ok-after.ensures.sat;
      unmoved = sat_unmoved p c.args.seats.now c.sit.new.seats old.values next.moves.values after.values old.slots next.moves.slots c.args.place c.in-Some.slot next.slot at goes c.in_ok-next.ensures.keeps c.in_ok-after.ensures.sat;
      moved = sat_moved p c.args.seats.now c.sit.new.seats old.values next.moves.values after.values next.moves.slots c.args.place c.in-Some.slot next.slot at moving.seated goes c.in_ok-after.ensures.sat;
    })
