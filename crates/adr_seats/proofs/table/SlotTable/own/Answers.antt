use Rattle.std.proofs.Common.{◌/◌, sym, ◌∙◌}
use Rattle.adr_seats.proofs.Chunks.{within-unless}
use Rattle.adr_seats.proofs.table.SlotTable.own.Goals as goal

pub unshare-requires : goal.unshare-requires
unshare-requires c = within-unless c.args.self.now.full (c.args.place / 512) (sym c.may_write.ensures ∙ c.if-may_write.false)
