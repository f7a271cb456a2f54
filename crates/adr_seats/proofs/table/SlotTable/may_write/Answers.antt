use Rattle.std.proofs.Common.{◌/◌, ap, sym, ◌∙◌, arith}
use Rattle.adr_seats.specs.Table.{Chunks, is_own}
use Rattle.adr_seats.proofs.Chunks.{may-get, may-past}
use Rattle.adr_seats.proofs.table.SlotTable.may_write.Goals as goal

pub returns-then-index-len : goal.returns-then-index-len
returns-then-index-len c =
    let full = c.self.inside.full in
    c.is_own.ensures ∙ sym (may-get full.items (c.args.place / 512) c.index.result.now (omega (arith, c.if-index-len.true, c.len.ensures, full.ok.0)) c.index.ensures)
    ∙ ap (λ (t : Chunks). is_own t c.args.place) c.self.view_is

pub returns-else-index-len : goal.returns-else-index-len
returns-else-index-len c =
    let full = c.self.inside.full in
    sym (may-past full.items (c.args.place / 512) (omega (arith, c.if-index-len.false, c.len.ensures, full.ok.0))) ∙ ap (λ (t : Chunks). is_own t c.args.place) c.self.view_is
