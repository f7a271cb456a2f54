use Rattle.std.proofs.Common.{◌∙◌}
use Rattle.adr_board.proofs.Timelines.{line_tells}
use Rattle.adr_board.proofs.snapshot.types.has_line.Goals as goal

pub returns : goal.returns
returns c test is =
    c.is_some.ensures
    ∙ line_tells c.args.group.now.lines test is c.args.payload_type.now c.timeline.result c.timeline.ensures.shows c.timeline.ensures.canonical c.timeline.ensures.lasts
