use Rattle.std.proofs.Common.{◌≡◌, Some, slice_get, ap, remove, sym, subst, ◌∙◌}
use Rattle.adr_schedule.specs.Place.{LacksPlace}
use Rattle.adr_schedule.specs.Seating.{Seating}
use Rattle.adr_schedule.proofs.Places.{goes_seated, goes_away, gone_right}
use Rattle.adr_schedule.proofs.schedule.Schedule.without_place.Goals as goal

pub invariant_of-result : goal.invariant_of-result
invariant_of-result c =
    let s : Seating = record { seats = c.self.inside.seats; groups = c.self.inside.groups } in
    rw c.in_ok-seats-2.ensures
    (goes_seated s c.args.place c.in-Some.slot c.self.invariant (subst (λ xs. slice_get xs c.args.place ≡ Some c.in-Some.slot) c.get.ensures (sym c.in-Some.ensures.value))
    c.in_ok-seats.seats c.in_ok-groups.groups (c.in_ok-seats.ensures ∙ ap (λ xs. remove xs c.args.place) c.get-2.ensures) c.in_ok-groups.ensures.ok)

pub returns-clause-place : goal.returns-clause-place
returns-clause-place c =
    let s : Seating = record { seats = c.self.inside.seats; groups = c.self.inside.groups } in
    let after : Seating = record { seats = c.in_ok-seats.seats; groups = c.in_ok-groups.groups } in
    rw c.in_ok-seats-2.ensures
    (subst (λ (x : Seating). LacksPlace c.args.place x after) c.self.view_is
    (goes_away s c.args.place c.in-Some.slot c.self.invariant (subst (λ xs. slice_get xs c.args.place ≡ Some c.in-Some.slot) c.get.ensures (sym c.in-Some.ensures.value))
    c.in_ok-seats.seats c.in_ok-groups.groups (c.in_ok-seats.ensures ∙ ap (λ xs. remove xs c.args.place) c.get-2.ensures) c.in_ok-groups.ensures.ok))

pub returns-clause-right : goal.returns-clause-right
returns-clause-right c =
    let after : Seating = record { seats = c.in_ok-seats-2.seats; groups = c.in_ok-groups.groups } in
    gone_right c.args.place c.args.self.now after (returns-clause-place c)
