use Rattle.std.proofs.Common.{◌≡◌, List, ℕ, length, sum_by, ap, ◌∙◌, arith, subst, sym}
use Rattle.adr_object.specs.declared.party.Resource.{Resource}
use Rattle.adr_model.specs.Book.{Book}
use Rattle.adr_regroup.specs.Compared.{most_reseated_at, StandOnce}
use Rattle.adr_regroup.specs.Party.{AreSeatedBut}
use Rattle.adr_regroup.specs.Program.{with_program, AreThoseMarked}
use Rattle.adr_regroup.proofs.TouchCosts.{places_cost}
use Rattle.adr_regroup.proofs.Turned.{left_to_reseat}
use Rattle.adr_regroup.proofs.program.after_change.Goals as goal

pub reseated-requires-clause-seated : goal.reseated-requires-clause-seated
reseated-requires-clause-seated g c =
    let edited = c.args.edited.now in
    let old = edited.old.now.objects in
    let marks = c.in_ok-marks.marks.items in
    let places = c.in_ok-places.places.items in
    let those : AreThoseMarked marks (length marks) places =
    subst (λ ms. AreThoseMarked ms (length ms) places) c.as_slice.ensures.value c.in_ok-places.ensures.places in
    subst (λ (b : Book). AreSeatedBut edited.tie b c.as_slice-2.result.now edited.schedule.now) (sym c.requires.made)
    (subst (λ (ps : List ℕ). AreSeatedBut edited.tie (with_program old c.args.program.now) ps edited.schedule.now) (sym c.as_slice-2.ensures.value)
    (left_to_reseat old c.args.program.now edited.tie marks places edited.schedule.now c.in_ok-marks.ensures.marked those c.requires.edited.seated))

pub returns-clause-least : goal.returns-clause-least
returns-clause-least g c =
    let edited = c.args.edited.now in
    let old = edited.old.now.objects in
    let new = edited.new.now.objects in
    let marks = c.in_ok-marks.marks.items in
    let places = c.in_ok-places.places.items in
    let those : AreThoseMarked marks (length marks) places =
    subst (λ ms. AreThoseMarked ms (length ms) places) c.as_slice.ensures.value c.in_ok-places.ensures.places in
    let kept : new.events ≡ old.events = ap (λ (b : Book). b.events) c.requires.made in
    let same : new.resources ≡ old.resources = ap (λ (b : Book). b.resources) c.requires.made in
    let few = places_cost edited.tie old new edited.schedule.now places c.book_laws.ensures.whole c.book_laws-2.ensures.whole kept same c.requires.edited.seated
    (subst (λ n. StandOnce places n) (c.in_ok-marks.ensures.marked.count ∙ ap (λ (rs : List Resource). length rs) (sym same)) those.once) in
    let all = ap (sum_by (most_reseated_at new edited.schedule.now)) c.as_slice-2.ensures.value in
    omega (arith, few, all, c.in_ok-after.ensures.least)
