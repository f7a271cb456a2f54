use Rattle.std.proofs.Common.{◌∙◌, sym, ap, ◌++◌, append-nil, List}
use Rattle.adr_model.specs.declared.touch.Touch.{Touch}
use Rattle.adr_touches.proofs.Laid.{no_place}
use Rattle.adr_touches.proofs.windows.add_intervals.Goals as goal

pub returns-clause-ok : goal.returns-clause-ok
returns-clause-ok c =
    sym (append-nil c.rest.touches.items)
    ∙ ap (λ (ts : List Touch). c.rest.touches.items ++ ts) (sym (no_place c.args.resource.now c.rest.intervals.now c.rest.places.now c.in_default.ensures.cases))
    ∙ c.rest.invariant
