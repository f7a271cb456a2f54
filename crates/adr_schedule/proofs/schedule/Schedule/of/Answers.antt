use Rattle.std.proofs.Common.{length}
use Rattle.adr_schedule.proofs.Filled.{fewer_left, first_within, item_there, item_within, turn_groups, turn_seats, turn_within}
use Rattle.adr_schedule.proofs.schedule.Schedule.of.Goals as goal

pub unreachable-requires : goal.unreachable-requires
unreachable-requires c =
    let within = first_within c.rest.rest.now c.in-Some.more.now c.in-Some.slot.now (length c.args.groups.now) c.in-Some.ensures.cases.0 c.rest.invariant.within in
    item_within c.args.groups.now c.in-Some.slot.now c.get.result c.get.ensures.lookup c.in_default-get.is within

pub rest-smaller : goal.rest-smaller
rest-smaller c = fewer_left c.rest.rest.now c.in-Some.more.now c.in-Some.slot.now c.in-Some.ensures.cases.0

pub rest-preserved : goal.rest-preserved
rest-preserved c =
    let slot = c.in-Some.slot.now in
    let first = c.in-Some.ensures.cases.0 in
    record {
      seats = turn_seats c.rest.seats c.seated_last.new.seats c.rest.rest.now c.in-Some.more.now c.args.slots.now slot c.rest.invariant.seats first c.in_ok-kept.ensures.seats;
      seated = c.in_ok-kept.ensures.seated;
      groups = turn_groups c.rest.kept c.in_ok-kept.kept c.args.groups.now slot c.in-Some-get.group.now (item_there c.args.groups.now slot c.in-Some-get.group c.in-Some-get.ensures.lookup) c.rest.invariant.groups c.in_ok-kept.ensures.groups;
      within = turn_within c.rest.rest.now c.in-Some.more.now slot (length c.args.groups.now) first c.rest.invariant.within;
    }
