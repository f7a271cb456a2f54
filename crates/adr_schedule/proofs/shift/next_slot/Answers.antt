use Rattle.std.proofs.Common.{sym, subst, ◌∙◌}
use Rattle.std.specs.Prelude.{MatchOption}
use Rattle.adr_schedule.specs.Shift.{Becomes}
use Rattle.adr_schedule.proofs.Least.{keeps_unknown}
use Rattle.adr_schedule.proofs.Seated.{none_is_some}
use Rattle.adr_schedule.proofs.Turns.{next_of}
use Rattle.adr_schedule.proofs.shift.next_slot.Goals as goal

pub returns-clause-next : goal.returns-clause-next
returns-clause-next c change indexes made g here moving =
    let old = c.args.moves.now in
    let next = c.in_ok-next.next in
    let none = sym c.next.ensures ∙ c.in_default.is in
    next_of change indexes c.args.seats.now old.values next.moves.values old.slots next.moves.slots c.args.slot next.slot c.in_ok-group.group
    none
    (λ f k. subst (λ o. MatchOption o (Becomes change indexes f f) (λ h. Becomes change indexes f h)) (sym c.in_ok-group.ensures.made) (made none f k))
    (λ k. absurd (none_is_some g (sym k ∙ here)))
    c.in_ok-next.ensures.kept
    c.in_ok-next.ensures.parted
    moving

pub returns-clause-keeps : goal.returns-clause-keeps
returns-clause-keeps c =
    let old = c.args.moves.now in
    let next = c.in_ok-next.next in
    keeps_unknown old.values old.slots next.moves.values next.moves.slots c.args.slot next.slot c.args.seats.now c.in_ok-group.group c.in_ok-next.ensures.kept c.in_ok-next.ensures.parted
