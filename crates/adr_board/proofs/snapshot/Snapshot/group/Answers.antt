use Rattle.std.proofs.Common.{subst}
use Rattle.std.specs.Option.{option_copied}
use Rattle.adr_book.specs.Ledger.{Ledger}
use Rattle.adr_model.specs.Whole.{IsWhole}
use Rattle.adr_board.proofs.Timelines.{group_placed}
use Rattle.adr_board.proofs.snapshot.Snapshot.group.Goals as goal

pub returns : goal.returns
returns c =
    let r = c.self.inside.resolution in
    rw (← c.self.view_is)
    (group_placed r.tie r.book.objects c.schedule-schedule.result.now c.schedule-schedule.ensures c.args.place (option_copied c.group.result)
    (subst (λ (b : Ledger). IsWhole b.objects) c.book.ensures c.book_laws.ensures.whole) c.group.ensures.value c.group.ensures.there)
