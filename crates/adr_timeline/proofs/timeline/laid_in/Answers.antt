use Rattle.std.proofs.Common.{◌∙◌, List, ap}
use Rattle.std.proofs.lemmas.Result.{IfOk-weaker}
use Rattle.adr_model.specs.declared.timeline.Segment.{Segment}
use Rattle.adr_model.specs.Timeline.{shows}
use Rattle.adr_timeline.proofs.Laid.{inside_shows}
use Rattle.adr_timeline.proofs.Stepped.{build_canonical}
use Rattle.adr_timeline.proofs.timeline.laid_in.Goals as goal

pub timeline_of-requires : goal.timeline_of-requires
timeline_of-requires c = build_canonical c.in_ok-steps.steps.items c.join_steps.new.line c.args.window c.in_ok-steps.ensures.order (rw (c.deref.ensures.value, c.new-line.ensures) at c.in_ok-join_steps.ensures)

pub returns-clause-shows : goal.returns-clause-shows
returns-clause-shows c = IfOk-weaker c.timeline_of.result _ _
    (λ timeline same t. ap (λ (ss : List Segment). shows ss t) same
    ∙ inside_shows c.args.shown.now c.args.entries.now c.join_steps.new.line c.in_ok-steps.steps.items c.args.window c.in_ok-steps.ensures.order c.in_ok-steps.ensures.ranks (rw (c.deref.ensures.value, c.new-line.ensures) at c.in_ok-join_steps.ensures) t)
    c.timeline_of.ensures.same
