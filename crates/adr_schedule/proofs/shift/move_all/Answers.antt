use Rattle.adr_schedule.specs.Shift.{Becomes}
use Rattle.adr_schedule.proofs.Shifts.{none_left}
use Rattle.adr_schedule.proofs.Turns.{begins, ends, made_next, one_moves}
use Rattle.adr_schedule.proofs.Variant.{becomes_passes}
use Rattle.adr_schedule.proofs.shift.move_all.Goals as goal

pub rest-init : goal.rest-init
rest-init c change indexes made =
    begins (Becomes change indexes) c.args.places.now c.args.seats.now c.new-moves.result.values c.new-moves.result.slots c.new-moves.ensures.slots (rw c.new-moves.ensures.values c.requires.seated)

pub rest-preserved : goal.rest-preserved
rest-preserved c change indexes made =
    let p = Becomes change indexes in
    let first = c.new-moves.result in
    let after = c.in_ok-moves.moves in
    let u = c.rest.invariant change indexes made in
    let rest = c.rest.rest.now in
    let more = c.in-Some.more.now in
    let place = c.in-Some.place.now in
    let old = c.rest.moves in
    let next = made_next p c.args.places.now c.args.seats.now first.values c.args.made.now made c.rest.seats old.values old.slots rest more place c.in-Some.ensures.cases.0 u in
    one_moves p c.args.places.now c.args.seats.now first.values c.args.made.now made c.rest.seats old.values old.slots rest more place c.in-Some.ensures.cases.0 u
    (becomes_passes change indexes) c.move_place.new.seats after.values after.slots
    (c.in_ok-moves.ensures.moved change indexes next u.moving)

pub returns-clause-moved : goal.returns-clause-moved
returns-clause-moved c change indexes made =
    let p = Becomes change indexes in
    rw (← c.new-moves.ensures.values)
    (ends p c.args.places.now c.args.seats.now c.new-moves.result.values c.rest.seats c.rest.moves.values c.rest.moves.slots c.rest.rest.now (none_left c.rest.rest.now c.in_default.ensures.cases)
    (c.rest.invariant change indexes (rw c.new-moves.ensures.values made)))
