use Rattle.std.proofs.Common.{List, ◌∙◌, ap}
use Rattle.std.proofs.lemmas.Result.{IfOk-weaker}
use Rattle.adr_model.specs.declared.timeline.Segment.{Segment}
use Rattle.adr_model.specs.Timeline.{shows}
use Rattle.adr_board.proofs.snapshot.lines.segments_of.Goals as goal

pub returns-clause-shows : goal.returns-clause-shows
returns-clause-shows c =
    rw c.in-Some.is (
    IfOk-weaker c.joined.result _ _
    (λ v same t. ap (λ (ss : List Segment). shows ss t) (same ∙ c.segments.ensures.segments) ∙ c.in_ok-inside.ensures.shows t)
    c.joined.ensures.ok
    )
