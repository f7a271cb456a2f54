use Rattle.std.proofs.Common.{◌∙◌}
use Rattle.std.proofs.lemmas.Result.{IfOk-weaker}
use Rattle.adr_timeline.proofs.Stepped.{winner_meeting}
use Rattle.adr_timeline.proofs.timeline.Timeline.build.Goals as goal

pub returns-clause-shows : goal.returns-clause-shows
returns-clause-shows c = IfOk-weaker c.of-2.result _ _
    (λ timeline shown t. shown t ∙ (rw (c.deref.ensures.value, c.in_ok-found.ensures) (winner_meeting c.args.entries.now c.args.window t)))
    c.of-2.ensures.shows
