use Rattle.std.proofs.Common.{◌∙◌, ap, map, List}
use Rattle.std.proofs.lemmas.Result.{on_ok_weaker}
use Rattle.adr_time.specs.declared.span.Span.{Span}
use Rattle.adr_model.specs.declared.entry.Placed.{Placed}
use Rattle.adr_touches.specs.Applied.{written_event}
use Rattle.adr_touches.proofs.Laid.{touches_of_spans}
use Rattle.adr_touches.proofs.windows.add_event.Goals as goal

pub returns-clause-ok : goal.returns-clause-ok
returns-clause-ok c =
    on_ok_weaker c.add_intervals.result
    (touches_of_spans _ _ c.args.resource.now (written_event c.args.applied) c.as_slice-intervals.result.now (map {B = Span} (λ p. p.span) c.as_slice.result.now)
    c.as_slice-intervals.ensures.value
    (ap (λ (ps : List Placed). map {B = Span} (λ p. p.span) ps) c.as_slice.ensures.value ∙ c.in_ok-places.ensures.ok))
    c.add_intervals.ensures.ok
