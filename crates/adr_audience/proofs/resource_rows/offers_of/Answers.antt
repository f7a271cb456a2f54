use Rattle.std.proofs.Common.{◌≡◌, ◌++◌, ◌∷◌, [], slice_get, Some, ap, sym, ◌∙◌}
use Rattle.std.specs.Option.{option_copied}
use Rattle.adr_audience.specs.Rows.{offered_in}
use Rattle.adr_audience.proofs.Listed.{map_next}
use Rattle.adr_audience.proofs.resource_rows.offers_of.Goals as goal

pub loop-place-preserved : goal.loop-place-preserved
loop-place-preserved c =
    let rs = c.args.store.now.resources in
    let x = c.in-Some.resource.now in
    let p = c.loop-place.place in
    let here : slice_get rs p ≡ Some x = sym c.resource_at.ensures ∙ ap option_copied c.in-Some.is in
    c.in_ok-add_resource.ensures.ok ∙ ap (λ rows. rows ++ offered_in c.args.store.now x ∷ []) c.loop-place.invariant ∙ map_next (offered_in c.args.store.now) rs p x here
