use Rattle.std.proofs.Common.{◌≤◌, ◌++◌, length, ap, arith, length-append}
use Rattle.adr_seats.specs.Table.{Chunks, joined}
use Rattle.adr_seats.proofs.Chunks.{joined-length}
use Rattle.adr_seats.proofs.table.SlotTable.start.Goals as goal

pub overflow_mul-result : goal.overflow_mul-result
overflow_mul-result c =
    let full = c.self.inside.full in
    let last = c.self.inside.last.items in
    let small : length (joined full.items ++ last) ≤ 2147483648 = c.self.invariant.1 in
    omega (arith, c.len.ensures, full.ok.0, joined-length full.items c.self.invariant.0, length-append (joined full.items) last, small)

pub returns : goal.returns
returns c =
    let full = c.self.inside.full in
    omega (arith, c.len.ensures, full.ok.0, joined-length full.items c.self.invariant.0, ap (λ (t : Chunks). length (joined t.full)) c.self.view_is)
