use Rattle.std.proofs.Common.{List, ℕ, length, ap, subst, sym, ◌∙◌}
use Rattle.std.specs.Option.{option_copied}
use Rattle.adr_regroup.specs.Compared.{StandOnce}
use Rattle.adr_regroup.proofs.Applying.{applying_once}
use Rattle.adr_desk.proofs.Joining.{no_more_places, places_apply}
use Rattle.adr_desk.proofs.events.places_for.Goals as goal

pub returns-in_ok-places-in-Some-clause-apply : goal.returns-in_ok-places-in-Some-clause-apply
returns-in_ok-places-in-Some-clause-apply c =
    let book = c.args.book.now.objects in
    places_apply book c.args.event.now c.in-Some.program.now c.in_ok-places-in-Some.places.items
    (sym c.program.ensures ∙ ap option_copied c.in-Some.is)
    (c.in_ok-places-in-Some.ensures.places book c.requires.whole c.requires.keys)

pub returns-in_ok-places-in-Some-clause-count : goal.returns-in_ok-places-in-Some-clause-count
returns-in_ok-places-in-Some-clause-count c =
    let book = c.args.book.now.objects in
    no_more_places book c.args.event.now c.in-Some.program.now c.in_ok-places-in-Some.places.items
    (c.in_ok-places-in-Some.ensures.places book c.requires.whole c.requires.keys)

pub returns-in_ok-places-in-Some-clause-once : goal.returns-in_ok-places-in-Some-clause-once
returns-in_ok-places-in-Some-clause-once c =
    let book = c.args.book.now.objects in
    subst (λ (ps : List ℕ). StandOnce ps (length book.resources)) (sym (c.in_ok-places-in-Some.ensures.places book c.requires.whole c.requires.keys))
    (applying_once book c.args.event.now c.in-Some.program.now)
