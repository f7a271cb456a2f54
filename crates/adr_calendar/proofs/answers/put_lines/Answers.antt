use Rattle.std.proofs.Common.{◌++◌, ap, ◌∙◌}
use Rattle.adr_model.specs.Book.{Book}
use Rattle.adr_calendar.specs.Segments.{line_of_segment}
use Rattle.adr_calendar.proofs.Walked.{passed_on}
use Rattle.adr_calendar.proofs.answers.put_lines.Goals as goal

pub loop-segment-preserved : goal.loop-segment-preserved
loop-segment-preserved c =
    let same = c.loop-segment.invariant.1 in (
      passed_on (line_of_segment c.args.book.now.objects c.args.payload_type.now c.args.to) _ _ _ c.args.segments.now c.loop-segment.segment-index c.segment-item.result
          c.loop-segment-test.true c.segment-item.is c.loop-segment.invariant.0
          (c.in_ok-put_line.ensures.ok
          ∙ ap (λ (b : Book). c.loop-segment.out.items ++ line_of_segment b c.args.payload_type.now c.args.to c.segment-item.result) same),
      c.put_line.ensures.objects ∙ same,
    )
