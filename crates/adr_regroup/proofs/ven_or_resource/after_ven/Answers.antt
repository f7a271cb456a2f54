use Rattle.std.proofs.Common.{◌≡◌, ◌<◌, ℕ, List, true, length, sum_by, ap, ◌∙◌, arith, subst, sym}
use Rattle.adr_object.specs.declared.party.Resource.{Resource}
use Rattle.adr_schedule.specs.Moves.{is_among}
use Rattle.adr_schedule.specs.Seating.{Seating}
use Rattle.adr_regroup.specs.Compared.{most_reseated_at, StandOnce}
use Rattle.adr_regroup.specs.Party.{AreSeatedBut}
use Rattle.adr_regroup.proofs.PartyEdits.{ven_keeps, ven_places, ven_resources, ven_starts}
use Rattle.adr_regroup.proofs.TouchCosts.{places_cost}
use Rattle.adr_regroup.proofs.ven_or_resource.after_ven.Goals as goal

pub reseated_in-requires-clause-places : goal.reseated_in-requires-clause-places
reseated_in-requires-clause-places g c =
    let edited = c.args.edited.now in
    subst (λ (ps : List ℕ). (p : ℕ) → is_among ps p ≡ true → p < length edited.new.now.objects.resources) (sym c.deref.ensures.value)
    (ven_places edited.old.now.objects edited.new.now.objects edited.edit.now c.in_ok-places.places.items c.requires.ven c.requires.edited.accepted c.in_ok-places.ensures.places)

pub reseated_in-requires-clause-kept : goal.reseated_in-requires-clause-kept
reseated_in-requires-clause-kept g c =
    let edited = c.args.edited.now in
    ven_keeps edited.old.now.objects edited.new.now.objects edited.edit.now c.requires.ven c.requires.edited.accepted

pub reseated_in-requires-clause-seated : goal.reseated_in-requires-clause-seated
reseated_in-requires-clause-seated g c =
    let edited = c.args.edited.now in
    let new = edited.new.now.objects in
    subst (λ (ps : List ℕ). AreSeatedBut edited.tie new ps c.in_ok-same.same) (sym c.deref.ensures.value)
    (subst (λ (s : Seating). AreSeatedBut edited.tie new c.in_ok-places.places.items s) (sym c.in_ok-same.ensures)
    (ven_starts edited.tie edited.old.now.objects new edited.edit.now c.in_ok-places.places.items edited.schedule.now c.requires.ven c.requires.edited.accepted c.in_ok-places.ensures.places c.requires.edited.seated))

pub returns-clause-least : goal.returns-clause-least
returns-clause-least g c =
    let edited = c.args.edited.now in
    let old = edited.old.now.objects in
    let new = edited.new.now.objects in
    let places = c.in_ok-places.places.items in
    let own = c.in_ok-places.ensures.places.once in
    let same = ven_resources old new edited.edit.now c.requires.ven c.requires.edited.accepted in
    let few = places_cost edited.tie old new edited.schedule.now places c.book_laws.ensures.whole c.book_laws-2.ensures.whole
    (ven_keeps old new edited.edit.now c.requires.ven c.requires.edited.accepted).events same c.requires.edited.seated
    (subst (λ n. StandOnce places n) (ap (λ (rs : List Resource). length rs) (sym same)) own) in
    let all : sum_by (most_reseated_at new c.in_ok-same.same) c.deref.result.now ≡ sum_by (most_reseated_at new edited.schedule.now) places =
    ap (λ (s : Seating). sum_by (most_reseated_at new s) c.deref.result.now) c.in_ok-same.ensures ∙ ap (sum_by (most_reseated_at new edited.schedule.now)) c.deref.ensures.value in
    omega (arith, few, all, c.requires.begun, c.in_ok-after.ensures.least)
