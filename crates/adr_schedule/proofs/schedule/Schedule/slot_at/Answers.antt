use Rattle.std.proofs.Common.{ℕ, List, ap, sym, ◌∙◌}
use Rattle.adr_schedule.specs.Slots.{is_taken}
use Rattle.adr_schedule.proofs.Numbered.{place_of_taken}
use Rattle.adr_schedule.proofs.schedule.Schedule.slot_at.Goals as goal

pub returns-in-Some : goal.returns-in-Some
returns-in-Some c =
    let slot = c.in_ok-slot.field-0.now in
    let taken = ap (λ (seats : List ℕ). is_taken seats slot) (sym c.get.ensures) ∙ (sym c.is_taken-taken.ensures ∙ c.if-taken.true) in
    let found = place_of_taken _ slot taken in
    rw (← c.self.view_is)
    (found.0, c.in-Some.group.now, found.1, sym c.in-Some.ensures, sym c.writes.ensures ∙ c.same.ensures.0 c.if-same.true)
