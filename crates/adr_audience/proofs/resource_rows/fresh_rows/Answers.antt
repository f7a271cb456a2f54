use Rattle.std.proofs.Common.{◌++◌, ◌∷◌, ◌<◌, [], length, take, map, ap, ◌∙◌, arith}
use Rattle.std.specs.Option.{option_and_then}
use Rattle.adr_audience.specs.Rows.{fresh_row}
use Rattle.adr_audience.proofs.Listed.{element, map_next}
use Rattle.adr_audience.proofs.resource_rows.fresh_rows.Goals as goal

pub loop-place-preserved : goal.loop-place-preserved
loop-place-preserved c =
    let rs = c.args.store.now.resources in
    let p = c.loop-place.place in
    let inside : p < length rs = omega (arith, c.loop-place-test.true, c.count-place-end.ensures) in
    let here = element rs p inside in
    let test = fresh_row c.args.ven.now in
    c.in_ok-push.ensures.items ∙ ap (λ xs. xs ++ c.in_ok-row.row ∷ []) c.loop-place.invariant
    ∙ ap (λ y. map test (take p rs) ++ y ∷ []) (c.in_ok-row.ensures ∙ ap (option_and_then test) here.1) ∙ map_next test rs p here.0 here.1
