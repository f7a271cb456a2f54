use Rattle.std.proofs.Common.{ap, subst, sym, ◌∙◌, is_some}
use Rattle.std.specs.Option.{option_copied}
use Rattle.adr_model.specs.Book.{resource_by}
use Rattle.adr_schedule.specs.Seating.{AreSeatedFor, Seating}
use Rattle.adr_schedule.proofs.Governed.{no_group, no_resource, place_shown}
use Rattle.adr_schedule.proofs.resolution.Resolution.timeline.Goals as goal

pub returns-in_err-place-clause-shows : goal.returns-in_err-place-clause-shows
returns-in_err-place-clause-shows c t =
    let d = c.self.inside in
    rw (c.from_residual.ensures, ← c.self.view_is)
    (no_resource d.tie d.book.objects d.schedule c.self.invariant c.args.id.now c.args.payload_type.now t (sym (c.resource_place.ensures.found ∙ ap (λ i. is_some (resource_by d.book.objects i)) c.lent.ensures) ∙ ap is_some c.in_err-place.was))

pub returns-in_err-group-clause-shows : goal.returns-in_err-group-clause-shows
returns-in_err-group-clause-shows c t =
    let d = c.self.inside in
    absurd (no_group d.tie d.book.objects c.get.result.now (subst (λ (s : Seating). AreSeatedFor d.tie d.book.objects s) (sym c.get.ensures) c.self.invariant) c.args.id.now c.in_ok-place.place
    (sym (c.resource_place.ensures.found ∙ ap (λ i. is_some (resource_by d.book.objects i)) c.lent.ensures) ∙ ap is_some c.in_ok-place.was) (c.in_ok-place.ensures.value ∙ ap (resource_by d.book.objects) c.lent.ensures) c.group.ensures.there (sym c.group.ensures.value ∙ ap option_copied c.in_err-group.was))

pub returns-clause-shows : goal.returns-clause-shows
returns-clause-shows c t =
    let d = c.self.inside in
    c.timeline.ensures.shows t
    ∙ rw (← c.self.view_is)
    (place_shown d.tie d.book.objects c.get.result.now (subst (λ (s : Seating). AreSeatedFor d.tie d.book.objects s) (sym c.get.ensures) c.self.invariant) c.args.id.now c.args.payload_type.now t c.in_ok-place.place c.in_ok-group.group.now
    (sym (c.resource_place.ensures.found ∙ ap (λ i. is_some (resource_by d.book.objects i)) c.lent.ensures) ∙ ap is_some c.in_ok-place.was) (c.in_ok-place.ensures.value ∙ ap (resource_by d.book.objects) c.lent.ensures) (sym c.group.ensures.value ∙ ap option_copied c.in_ok-group.was))
