use Rattle.std.proofs.Common.{◌≡◌, ◌+◌, ◌<◌, ◌∷◌, [], ℕ, List, Ok, Option, Some, None, true, is_some, length, slice_get, ap, arith, subst, sym, ◌∙◌}
use Rattle.std.proofs.lemmas.Bool.{both_ways}
use Rattle.std.proofs.lemmas.Option.{slice_get_within}
use Rattle.adr_object.specs.Object.{id_of}
use Rattle.adr_object.specs.declared.object.Edit.{Edit}
use Rattle.adr_object.specs.declared.party.Resource.{Resource}
use Rattle.adr_model.specs.Book.{resource_by}
use Rattle.adr_model.specs.Edits.{step}
use Rattle.adr_schedule.specs.Seating.{Seating}
use Rattle.adr_regroup.specs.Compared.{most_reseated_at}
use Rattle.adr_regroup.specs.Party.{AreSeatedBut}
use Rattle.adr_regroup.proofs.EditCosts.{changed_cost, created_cost}
use Rattle.adr_regroup.proofs.PartyEdits.{resource_changes, resource_comes, resource_goes, resource_to_change, resource_to_go}
use Rattle.adr_regroup.proofs.ven_or_resource.after_resource.Goals as goal
use Rattle.adr_regroup.specs.Kinds.{kind_of_edit}
use Rattle.adr_object.specs.declared.object.Kind.TheVariants.{Resource as resource_kind}

last_within : (place seats more resources : ℕ) → place ≡ seats → more ≡ seats + 1 → more ≡ resources → place < resources
last_within place seats more resources e h l = omega (arith, e, h, l)

found_within : (rs : List Resource) (p : ℕ) (o : Option Resource) → slice_get rs p ≡ o → is_some o ≡ true → p < length rs
found_within rs p o at there = by o at there
  where
    by : (x : Option Resource) → slice_get rs p ≡ x → is_some x ≡ true → p < length rs
    by (Some r) e t = slice_get_within rs p r e
    by None e t = absurd (cc)

pub reseated_at-requires-clause-place : goal.reseated_at-requires-clause-place
reseated_at-requires-clause-place g c =
    let edited = c.args.edited.now in
    let old = edited.old.now.objects in
    let new = edited.new.now.objects in
    let starts = resource_comes edited.tie old new c.in-Create.field-0 edited.schedule.now c.in_ok-more-in-Create.more (subst (λ (e : Edit). kind_of_edit e ≡ resource_kind) c.in-Create.is c.requires.resource)
    (subst (λ (e : Edit). step old e ≡ Ok new) c.in-Create.is c.requires.edited.accepted) c.schedule_laws.ensures c.in_ok-more-in-Create.ensures.place c.in_ok-more-in-Create.ensures.right c.requires.edited.seated in
    last_within _ _ _ _ c.len-place.ensures c.in_ok-more-in-Create.ensures.place.count starts.count

pub reseated_at-requires-clause-seated : goal.reseated_at-requires-clause-seated
reseated_at-requires-clause-seated g c =
    let edited = c.args.edited.now in
    let old = edited.old.now.objects in
    let new = edited.new.now.objects in
    subst (λ (p : ℕ). AreSeatedBut edited.tie new (p ∷ []) c.in_ok-more-in-Create.more) (sym c.len-place.ensures)
    (resource_comes edited.tie old new c.in-Create.field-0 edited.schedule.now c.in_ok-more-in-Create.more (subst (λ (e : Edit). kind_of_edit e ≡ resource_kind) c.in-Create.is c.requires.resource)
    (subst (λ (e : Edit). step old e ≡ Ok new) c.in-Create.is c.requires.edited.accepted) c.schedule_laws.ensures c.in_ok-more-in-Create.ensures.place c.in_ok-more-in-Create.ensures.right c.requires.edited.seated)

pub unreachable-requires : goal.unreachable-requires
unreachable-requires g c =
    let edited = c.args.edited.now in
    let old = edited.old.now.objects in
    let there = resource_to_change old edited.new.now.objects c.in-Change.object (subst (λ (e : Edit). kind_of_edit e ≡ resource_kind) c.in-Change.is c.requires.resource)
    (subst (λ (e : Edit). step old e ≡ Ok edited.new.now.objects) c.in-Change.is c.requires.edited.accepted) in
    both_ways (is_some (resource_by old (id_of c.in-Change.object))) (sym (c.in_default.ensures.found ∙ ap (λ i. is_some (resource_by old i)) (c.lent.ensures ∙ c.id.ensures))) there

pub reseated_at-requires-in-Change-clause-place : goal.reseated_at-requires-in-Change-clause-place
reseated_at-requires-in-Change-clause-place g c =
    let edited = c.args.edited.now in
    let old = edited.old.now.objects in
    let new = edited.new.now.objects in
    let own = subst (λ (e : Edit). kind_of_edit e ≡ resource_kind) c.in-Change.is c.requires.resource in
    let made = subst (λ (e : Edit). step old e ≡ Ok new) c.in-Change.is c.requires.edited.accepted in
    let at : slice_get old.resources c.in-Some.place ≡ resource_by old (id_of c.in-Change.object) = c.in-Some.ensures.value ∙ ap (resource_by old) (c.lent.ensures ∙ c.id.ensures) in
    let starts = resource_changes edited.tie old new c.in-Change.object c.in-Some.place edited.schedule.now c.book_laws.ensures.whole own made at c.requires.edited.seated in
    subst (λ n. c.in-Some.place < n) (sym c.requires.edited.seated.count ∙ starts.count)
    (found_within old.resources c.in-Some.place (resource_by old (id_of c.in-Change.object)) at (resource_to_change old new c.in-Change.object own made))

pub reseated_at-requires-in-Change-clause-seated : goal.reseated_at-requires-in-Change-clause-seated
reseated_at-requires-in-Change-clause-seated g c =
    let edited = c.args.edited.now in
    let old = edited.old.now.objects in
    let new = edited.new.now.objects in
    subst (λ (s : Seating). AreSeatedBut edited.tie new (c.in-Some.place ∷ []) s) (sym c.in_ok-same-in-Change.ensures)
    (resource_changes edited.tie old new c.in-Change.object c.in-Some.place edited.schedule.now c.book_laws.ensures.whole
    (subst (λ (e : Edit). kind_of_edit e ≡ resource_kind) c.in-Change.is c.requires.resource) (subst (λ (e : Edit). step old e ≡ Ok new) c.in-Change.is c.requires.edited.accepted)
    (c.in-Some.ensures.value ∙ ap (resource_by old) (c.lent.ensures ∙ c.id.ensures)) c.requires.edited.seated)

pub without-requires-clause-there : goal.without-requires-clause-there
without-requires-clause-there g c =
    let edited = c.args.edited.now in
    resource_to_go edited.old.now.objects edited.new.now.objects c.in-Remove.field-0 c.in-Remove.id (subst (λ (e : Edit). kind_of_edit e ≡ resource_kind) c.in-Remove.is c.requires.resource)
    (subst (λ (e : Edit). step edited.old.now.objects e ≡ Ok edited.new.now.objects) c.in-Remove.is c.requires.edited.accepted)

pub returns-in_ok-after-in-Remove-clause-seated : goal.returns-in_ok-after-in-Remove-clause-seated
returns-in_ok-after-in-Remove-clause-seated g c =
    let edited = c.args.edited.now in
    let p = c.in_ok-after-in-Remove.ensures.place in
    resource_goes edited.tie edited.old.now.objects edited.new.now.objects c.in-Remove.field-0 c.in-Remove.id p.0 edited.schedule.now c.in_ok-after-in-Remove.after c.book_laws.ensures.whole
    (subst (λ (e : Edit). kind_of_edit e ≡ resource_kind) c.in-Remove.is c.requires.resource) (subst (λ (e : Edit). step edited.old.now.objects e ≡ Ok edited.new.now.objects) c.in-Remove.is c.requires.edited.accepted)
    p.1 p.2 p.3 c.requires.edited.seated

pub returns-in_ok-after-in-Create-clause-least : goal.returns-in_ok-after-in-Create-clause-least
returns-in_ok-after-in-Create-clause-least g c =
    let edited = c.args.edited.now in
    let old = edited.old.now.objects in
    let new = edited.new.now.objects in
    let more = c.in_ok-more-in-Create.more in
    let own = created_cost old new c.in-Create.field-0 edited.schedule.now more c.book_laws-2.ensures.whole
    (subst (λ (e : Edit). kind_of_edit e ≡ resource_kind) c.in-Create.is c.requires.resource) (subst (λ (e : Edit). step old e ≡ Ok new) c.in-Create.is c.requires.edited.accepted)
    c.requires.edited.seated.count c.in_ok-more-in-Create.ensures.place in
    let here = ap (most_reseated_at new more) c.len-place.ensures in
    omega (arith, own, here, c.requires.begun, c.in_ok-after-in-Create.ensures.least)

pub returns-in_ok-after-in-Change-clause-least : goal.returns-in_ok-after-in-Change-clause-least
returns-in_ok-after-in-Change-clause-least g c =
    let edited = c.args.edited.now in
    let old = edited.old.now.objects in
    let new = edited.new.now.objects in
    let own = changed_cost edited.tie old new c.in-Change.object c.in-Some.place edited.schedule.now c.book_laws.ensures.whole c.book_laws-2.ensures.whole
    (subst (λ (e : Edit). kind_of_edit e ≡ resource_kind) c.in-Change.is c.requires.resource) (subst (λ (e : Edit). step old e ≡ Ok new) c.in-Change.is c.requires.edited.accepted)
    (c.in-Some.ensures.value ∙ ap (resource_by old) (c.lent.ensures ∙ c.id.ensures)) c.requires.edited.seated in
    let here = ap (λ (s : Seating). most_reseated_at new s c.in-Some.place) c.in_ok-same-in-Change.ensures in
    omega (arith, own, here, c.requires.begun, c.in_ok-after-in-Change.ensures.least)
