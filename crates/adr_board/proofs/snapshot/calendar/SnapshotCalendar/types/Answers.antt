use Rattle.std.proofs.Common.{slice_get, ◌∙◌}
use Rattle.adr_board.proofs.Timelines.{no_types_placed, types_placed}
use Rattle.adr_board.proofs.snapshot.calendar.SnapshotCalendar.types.Goals as goal

pub returns-in_ok-types-in-Some-clause-ok : goal.returns-in_ok-types-in-Some-clause-ok
returns-in_ok-types-in-Some-clause-ok c =
    let book = c.args.self.now.book.objects in
    types_placed c.args.self.now.tie book c.in-Some.group.now c.in_ok-types-in-Some.types.items c.in_ok-types-in-Some.ensures.ok c.line_laws.ensures.order
    c.snapshot_laws.ensures.published.names (slice_get book.resources c.args.place) c.in-Some.ensures

pub returns-in-None-clause-ok : goal.returns-in-None-clause-ok
returns-in-None-clause-ok c =
    let book = c.args.self.now.book.objects in
    c.new.ensures.items ∙ no_types_placed c.args.self.now.tie book _ (slice_get book.resources c.args.place) c.in-None.ensures
