use Rattle.std.proofs.Common.{[], ◌∷◌, ◌++◌, ℕ, sum_by, ap, ◌∙◌, arith}
use Rattle.std.proofs.lemmas.List.Sums.{sum_by-cons}
use Rattle.adr_regroup.specs.Compared.{most_reseated_at}
use Rattle.adr_regroup.proofs.PartyEdits.{resource_keeps}
use Rattle.adr_regroup.proofs.ven_or_resource.reseated_at.Goals as goal

pub reseated_in-requires-clause-kept : goal.reseated_in-requires-clause-kept
reseated_in-requires-clause-kept g c =
    let edited = c.args.edited.now in
    resource_keeps edited.old.now.objects edited.new.now.objects edited.edit.now c.requires.resource c.requires.edited.accepted

pub returns-clause-least : goal.returns-clause-least
returns-clause-least g c =
    let edited = c.args.edited.now in
    let asked : ℕ → ℕ = most_reseated_at edited.new.now.objects c.args.schedule in
    let one = ap (sum_by asked) (c.deref.ensures.value ∙ c.in_ok-push.ensures.items ∙ ap (λ ps. ps ++ c.args.place ∷ []) c.new-places.ensures.items) in
    omega (arith, one, sum_by-cons asked c.args.place [], c.in_ok-after.ensures.least)
