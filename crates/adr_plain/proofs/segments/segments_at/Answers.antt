use Rattle.std.proofs.Common.{[]}
use Rattle.adr_plain.specs.Scan.{segment_at}
use Rattle.adr_calendar.proofs.Walked.{passed_on}
use Rattle.adr_plain.proofs.segments.segments_at.Goals as goal

pub loop-moment-preserved : goal.loop-moment-preserved
loop-moment-preserved c =
    let w = c.args.window.now in
    passed_on (segment_at w.entries.now w.from w.to) [] _ _ c.args.moments.now c.loop-moment.moment-index c.moment-item.result
    c.loop-moment-test.true c.moment-item.is c.loop-moment.invariant c.in_ok-add_segment_at.ensures.ok
