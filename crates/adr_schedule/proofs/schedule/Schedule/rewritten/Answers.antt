use Rattle.std.proofs.Common.{◌≡◌, Some, slice_get, sym, subst, ◌∙◌}
use Rattle.std.proofs.lemmas.Result.{IfOk-weaker}
use Rattle.adr_schedule.specs.Place.{IsPlaced}
use Rattle.adr_schedule.specs.Seating.{group_at, Seating}
use Rattle.adr_schedule.proofs.Places.{placed_right}
use Rattle.adr_schedule.proofs.Seated.{at_slot}
use Rattle.adr_schedule.proofs.schedule.Schedule.rewritten.Goals as goal

pub returns-clause-right : goal.returns-clause-right
returns-clause-right g c =
    let s = c.args.self.now in
    let place = c.args.place in
    let group = c.in-Some-get.group.now in
    let made = c.in_ok-made.made in
    let at = subst (λ (x : Seating). group_at x place ≡ Some group) c.self.view_is
    (at_slot c.self.inside.seats c.self.inside.groups place c.in-Some.slot (subst (λ xs. slice_get xs place ≡ Some c.in-Some.slot) c.get.ensures (sym c.in-Some.ensures.value)) ∙ sym c.in-Some-get.ensures) in
    IfOk-weaker c.apart.result (IsPlaced place made s) _
    (λ after placed tie events indexed within before.
    placed_right place made s after placed tie events (c.in_ok-made.ensures.right tie events indexed (within group at) (before place group at)) before)
    c.apart.ensures.placed
