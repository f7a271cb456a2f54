use Rattle.std.proofs.Common.{◌<◌, length, slice_get, ap, sym, subst, ◌∙◌}
use Rattle.std.specs.List.{AllZip}
use Rattle.std.specs.Option.{option_and_then}
use Rattle.adr_desk.specs.Bulk.{IsGroupFor}
use Rattle.adr_desk.proofs.Seats.{all_seated, slot_within}
use Rattle.adr_desk.proofs.bulk.seating.seat_all.Goals as goal

pub of-requires : goal.of-requires
of-requires g c place slot h =
    let book = c.args.book.now.objects in
    subst (λ gs. slot < length gs) (sym c.as_slice-3.ensures.value)
    (slot_within c.args.tie book (length book.resources) c.in_ok-plan.plan.slots.items c.in_ok-plan.plan.jobs.items c.in_ok-groups.groups.items c.in_ok-plan.ensures.planned
    (subst (λ js. AllZip (IsGroupFor c.args.tie book.events) js c.in_ok-groups.groups.items) c.as_slice.ensures.value c.in_ok-groups.ensures.groups) place slot (sym (ap (λ xs. slice_get xs place) c.as_slice-2.ensures.value) ∙ h))

pub returns-clause-seated : goal.returns-clause-seated
returns-clause-seated g c =
    let book = c.args.book.now.objects in
    let slots = c.in_ok-plan.plan.slots.items in
    let groups = c.in_ok-groups.groups.items in
    all_seated c.args.tie book slots c.in_ok-plan.plan.jobs.items groups c.in_ok-schedule.schedule c.in_ok-plan.ensures.planned
    (subst (λ js. AllZip (IsGroupFor c.args.tie book.events) js groups) c.as_slice.ensures.value c.in_ok-groups.ensures.groups)
    (c.in_ok-schedule.ensures.count ∙ ap (λ xs. length xs) c.as_slice-2.ensures.value)
    (λ place.
    c.in_ok-schedule.ensures.groups place
    ∙ ap (λ gs. option_and_then (λ slot. slice_get gs slot) (slice_get c.as_slice-2.result.now place)) c.as_slice-3.ensures.value
    ∙ ap (λ xs. option_and_then (λ slot. slice_get groups slot) (slice_get xs place)) c.as_slice-2.ensures.value)
