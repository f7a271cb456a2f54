use Rattle.std.proofs.Common.{◌≡◌, ◌++◌, ◌∷◌, [], take, map, slice_get, Some, option_map, ap, sym, ◌∙◌}
use Rattle.std.specs.Option.{option_copied}
use Rattle.adr_model.specs.declared.written.Written.{Written}
use Rattle.adr_audience.specs.Asks.{fresh_asks}
use Rattle.adr_audience.proofs.Listed.{map_next_of}
use Rattle.adr_audience.proofs.event_rows.fresh_rows.Goals as goal

pub loop-place-preserved : goal.loop-place-preserved
loop-place-preserved c =
    let ws = c.args.store.now.events in
    let x = c.in-Some.event.now in
    let p = c.loop-place.place in
    let here : option_map (λ w. w.event) (slice_get ws p) ≡ Some x = sym c.event_at.ensures ∙ ap option_copied c.in-Some.is in
    let test = fresh_asks c.args.program.now in
    c.in_ok-push.ensures.items ∙ ap (λ xs. xs ++ c.in_ok-row.row ∷ []) c.loop-place.invariant
    ∙ ap (λ y. map (λ w. test w.event) (take p ws) ++ y ∷ []) c.in_ok-row.ensures ∙ map_next_of (λ (w : Written). w.event) test ws p x here
