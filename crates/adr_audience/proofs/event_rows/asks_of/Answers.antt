use Rattle.std.proofs.Common.{◌≡◌, ◌++◌, ◌∷◌, [], slice_get, Some, option_map, ap, sym, ◌∙◌}
use Rattle.std.specs.Option.{option_copied}
use Rattle.adr_model.specs.declared.written.Written.{Written}
use Rattle.adr_audience.specs.Asks.{asked_in}
use Rattle.adr_audience.proofs.Listed.{map_next_of}
use Rattle.adr_audience.proofs.event_rows.asks_of.Goals as goal

pub loop-place-preserved : goal.loop-place-preserved
loop-place-preserved c =
    let ws = c.args.store.now.events in
    let x = c.in-Some.event.now in
    let p = c.loop-place.place in
    let here : option_map (λ w. w.event) (slice_get ws p) ≡ Some x = sym c.event_at.ensures ∙ ap option_copied c.in-Some.is in
    c.in_ok-add_event.ensures.ok ∙ ap (λ rows. rows ++ asked_in c.args.store.now x ∷ []) c.loop-place.invariant
    ∙ map_next_of (λ (w : Written). w.event) (asked_in c.args.store.now) ws p x here
