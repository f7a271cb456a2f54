use Rattle.std.proofs.Common.{rules, ◌≡◌, Some}
use Rattle.adr_seats.specs.Law.{AreDistinct}
use Rattle.adr_schedule.proofs.Counted.{all_of}
use Rattle.adr_schedule.proofs.tally.SlotTally.all.Goals as goal

pub returns-then-ascend : goal.returns-then-ascend
returns-then-ascend c =
    let distinct : AreDistinct c.args.places.now = search rules in
    let none : c.args.self.left ≡ Some 0 = search rules in
    all_of c.all_of_a_slot.ensures.all c.all_of_a_slot.ensures.bound c.args.seats.now c.args.places.now c.args.self distinct c.requires none
