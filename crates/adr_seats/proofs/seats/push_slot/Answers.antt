use Rattle.std.proofs.Common.{arith}
use Rattle.adr_seats.specs.Table.{numbers}
use Rattle.adr_seats.proofs.Members.{members-bound}
use Rattle.adr_seats.proofs.seats.push_slot.Goals as goal

pub add-requires-clause-fits : goal.add-requires-clause-fits
add-requires-clause-fits c =
    omega (arith, c.in_ok-reserve.ensures.same c.args.slot, c.requires c.args.slot, members-bound c.args.slot (numbers c.args.slots.now), c.push.ensures.small)
