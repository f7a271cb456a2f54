use Rattle.std.proofs.Common.{◌∙◌, List, ap}
use Rattle.std.proofs.lemmas.Result.{IfOk-weaker}
use Rattle.adr_model.specs.declared.timeline.Segment.{Segment}
use Rattle.adr_model.specs.Timeline.{shows}
use Rattle.adr_timeline.proofs.Stepped.{build_canonical, build_shows}
use Rattle.adr_timeline.proofs.timeline.Timeline.of.Goals as goal

pub timeline_of-requires : goal.timeline_of-requires
timeline_of-requires c = build_canonical c.in_ok-steps.steps.items c.join_steps.new.line c.args.window c.in_ok-steps.ensures.order (rw (c.deref.ensures.value, c.new-line.ensures) at c.in_ok-join_steps.ensures)

pub returns-clause-shows : goal.returns-clause-shows
returns-clause-shows c = IfOk-weaker c.timeline_of.result _ _
    (λ timeline same t. ap (λ (ss : List Segment). shows ss t) same
    ∙ build_shows c.args.entries.now c.in_ok-steps.steps.items c.join_steps.new.line c.args.window c.in_ok-steps.ensures.order c.in_ok-steps.ensures.ranks (rw (c.deref.ensures.value, c.new-line.ensures) at c.in_ok-join_steps.ensures) t)
    c.timeline_of.ensures.same
