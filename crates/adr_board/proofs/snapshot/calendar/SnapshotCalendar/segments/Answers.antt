use Rattle.std.proofs.Common.{slice_get}
use Rattle.std.specs.Option.{option_copied}
use Rattle.adr_board.proofs.Timelines.{segments_placed}
use Rattle.adr_board.proofs.snapshot.calendar.SnapshotCalendar.segments.Goals as goal

pub returns-clause-ok : goal.returns-clause-ok
returns-clause-ok c =
    let book = c.args.self.now.book.objects in
    segments_placed c.args.self.now.tie book c.args.payload_type.now (option_copied c.line-line.result) c.args.from c.args.to c.in_ok-segments.segments.items
    c.in_ok-segments.ensures.canonical c.in_ok-segments.ensures.shows (slice_get book.resources c.args.place) c.line-line.ensures
