use Rattle.std.proofs.Common.{◌≡◌, false, ◌∷◌, ◌++◌, [], refl, ap, subst, ◌∙◌}
use Rattle.adr_schedule.specs.Place.{HasPlace, StaysRight}
use Rattle.adr_schedule.specs.Seating.{Seating}
use Rattle.adr_schedule.specs.Slots.{is_taken}
use Rattle.adr_schedule.proofs.Places.{comes_seated, comes_last, comes_right}
use Rattle.adr_schedule.proofs.schedule.Schedule.with_place.Goals as goal

pub invariant_of-result : goal.invariant_of-result
invariant_of-result c =
    let s : Seating = record { seats = c.self.inside.seats; groups = c.self.inside.groups } in
    rw c.in_ok-seats-2.ensures
    (comes_seated s c.in_ok-slot.slot c.in_ok-new.field-0 c.self.invariant (subst (λ xs. is_taken xs c.in_ok-slot.slot ≡ false) c.get.ensures c.in_ok-slot.ensures.free)
    c.push.new.self c.in_ok-groups.groups (c.in_ok-push.ensures.ok ∙ ap (λ xs. xs ++ c.in_ok-slot.slot ∷ []) (c.in_ok-seats.ensures ∙ c.get-2.ensures)) c.in_ok-groups.ensures)

pub returns-clause-place : goal.returns-clause-place
returns-clause-place c =
    let s : Seating = record { seats = c.self.inside.seats; groups = c.self.inside.groups } in
    let after : Seating = record { seats = c.push.new.self; groups = c.in_ok-groups.groups } in
    rw c.in_ok-seats-2.ensures
    (subst (λ (x : Seating). HasPlace x after) c.self.view_is
    (comes_last s c.in_ok-slot.slot c.in_ok-new.field-0 c.self.invariant (subst (λ xs. is_taken xs c.in_ok-slot.slot ≡ false) c.get.ensures c.in_ok-slot.ensures.free)
    c.push.new.self c.in_ok-groups.groups (c.in_ok-push.ensures.ok ∙ ap (λ xs. xs ++ c.in_ok-slot.slot ∷ []) (c.in_ok-seats.ensures ∙ c.get-2.ensures)) c.in_ok-groups.ensures (rw c.in_ok-new.ensures.empty refl)))

pub returns-clause-right : goal.returns-clause-right
returns-clause-right c =
    let s : Seating = record { seats = c.self.inside.seats; groups = c.self.inside.groups } in
    let after : Seating = record { seats = c.push.new.self; groups = c.in_ok-groups.groups } in
    rw c.in_ok-seats-2.ensures
    (subst (λ (x : Seating). StaysRight x after) c.self.view_is
    (comes_right s c.in_ok-slot.slot c.in_ok-new.field-0 c.self.invariant (subst (λ xs. is_taken xs c.in_ok-slot.slot ≡ false) c.get.ensures c.in_ok-slot.ensures.free)
    c.push.new.self c.in_ok-groups.groups (c.in_ok-push.ensures.ok ∙ ap (λ xs. xs ++ c.in_ok-slot.slot ∷ []) (c.in_ok-seats.ensures ∙ c.get-2.ensures)) c.in_ok-groups.ensures c.in_ok-new.ensures.right))
