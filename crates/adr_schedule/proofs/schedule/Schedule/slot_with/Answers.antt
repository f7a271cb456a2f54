use Rattle.std.proofs.Common.{sym, ◌∙◌}
use Rattle.adr_schedule.proofs.schedule.Schedule.slot_with.Goals as goal

pub returns-in-Some : goal.returns-in-Some
returns-in-Some c =
    rw (← c.self.view_is)
    (c.in_ok-place.field-0, c.in-Some.group.now, rw (c.get.ensures) at (sym c.in_ok-slot.ensures.value), sym c.in-Some.ensures, sym c.writes.ensures ∙ c.same.ensures.0 c.if-same.true)
