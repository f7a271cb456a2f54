use Rattle.std.proofs.Common.{◌≡◌, false, subst}
use Rattle.std.proofs.lemmas.Result.{IfOk-weaker}
use Rattle.adr_schedule.specs.Place.{HasValue}
use Rattle.adr_schedule.specs.Seating.{Seating}
use Rattle.adr_schedule.specs.Slots.{is_taken}
use Rattle.adr_schedule.proofs.Places.{put_value, put_there}
use Rattle.adr_schedule.proofs.schedule.Schedule.apart.Goals as goal

pub seated-requires-clause-value : goal.seated-requires-clause-value
seated-requires-clause-value c =
    let s = c.self.inside in
    subst (λ (x : Seating). HasValue x.seats c.in_ok-next.next x.groups c.in_ok-groups.groups) c.self.view_is
    (put_value s.seats s.groups c.in_ok-groups.groups c.in_ok-next.next c.args.group c.self.invariant (subst (λ xs. is_taken xs c.in_ok-next.next ≡ false) c.get.ensures c.in_ok-next.ensures.free) c.in_ok-groups.ensures)

pub returns-clause-placed : goal.returns-clause-placed
returns-clause-placed c =
    let s = c.self.inside in
    IfOk-weaker c.seated.result _ _ (λ after placed. placed c.args.group (put_there s.groups c.in_ok-groups.groups c.in_ok-next.next c.args.group c.in_ok-groups.ensures)) c.seated.ensures.placed
