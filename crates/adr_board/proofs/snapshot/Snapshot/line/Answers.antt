use Rattle.std.proofs.Common.{slice_get}
use Rattle.std.specs.Option.{option_copied}
use Rattle.adr_board.proofs.Timelines.{line_of_group, line_without_group}
use Rattle.adr_board.proofs.snapshot.Snapshot.line.Goals as goal

pub returns-in_err-group : goal.returns-in_err-group
returns-in_err-group c =
    let book = c.args.self.now.book.objects in
    rw c.from_residual.ensures (line_without_group c.args.self.now.tie book c.args.payload_type.now _ (slice_get book.resources c.args.place) c.in_err-group.ensures)

pub returns : goal.returns
returns c =
    let book = c.args.self.now.book.objects in
    line_of_group c.args.self.now.tie book c.args.payload_type.now c.in_ok-group.group.now (option_copied c.timeline.result) c.timeline.ensures.shows
    (slice_get book.resources c.args.place) c.in_ok-group.ensures
