use Rattle.std.proofs.Common.{slice_get}
use Rattle.std.specs.Option.{option_copied}
use Rattle.adr_board.proofs.Timelines.{state_placed}
use Rattle.adr_board.proofs.snapshot.calendar.SnapshotCalendar.state.Goals as goal

pub returns-clause-ok : goal.returns-clause-ok
returns-clause-ok c =
    let book = c.args.self.now.book.objects in
    state_placed c.args.self.now.tie book c.args.payload_type.now (option_copied c.line-line.result) c.args.moment c.state_of.result
    c.state_of.ensures.governed c.state_of.ensures.changed (slice_get book.resources c.args.place) c.line-line.ensures
