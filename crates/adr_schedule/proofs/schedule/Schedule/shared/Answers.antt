use Rattle.adr_schedule.proofs.Places.{placed_rewritten}
use Rattle.adr_schedule.proofs.schedule.Schedule.shared.Goals as goal

pub returns-in-Some-slot_with-clause-writes : goal.returns-in-Some-slot_with-clause-writes
returns-in-Some-slot_with-clause-writes c =
    let found = c.in-Some-slot_with.ensures in
    placed_rewritten c.args.place found.1 c.args.self.now c.in_ok-after.after (c.in_ok-after.ensures.placed found.1 found.3) c.args.writes.now found.4
