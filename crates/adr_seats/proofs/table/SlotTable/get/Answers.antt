use Rattle.std.proofs.Common.{◌≤◌, ◌-◌, ◌/◌, ◌%◌, length, ap, sym, ◌∙◌, arith}
use Rattle.std.specs.List.{slice_get}
use Rattle.std.proofs.lemmas.Nat.{div-add-mod'}
use Rattle.adr_seats.specs.Table.{Chunks, joined, numbers}
use Rattle.adr_seats.proofs.Chunks.{joined-length, read-full, get-right}
use Rattle.adr_seats.proofs.table.SlotTable.get.Goals as goal

pub overflow_sub-place : goal.overflow_sub-place
overflow_sub-place c =
    let full = c.self.inside.full in
    omega (arith, c.start.ensures, ap (λ (t : Chunks). length (joined t.full)) c.self.view_is, joined-length full.items c.self.invariant.0, c.if-index-len.false, c.len.ensures, full.ok.0, div-add-mod' c.args.place 512)

pub returns-then-index-len-clause-value : goal.returns-then-index-len-clause-value
returns-then-index-len-clause-value c =
    let full = c.self.inside.full in
    let place = c.args.place in
    c.number_at.ensures ∙ ap (λ xs. slice_get xs (place % 512)) c.numbers.ensures
    ∙ sym (read-full full.items c.self.inside.last.items (place / 512) (place % 512) place c.index.result.now c.self.invariant.0
    (omega (arith, c.if-index-len.true, c.len.ensures, full.ok.0)) (omega arith) (sym (div-add-mod' place 512)) c.index.ensures)
    ∙ ap (λ (t : Chunks). slice_get (numbers t) place) c.self.view_is

pub returns-else-index-len-clause-value : goal.returns-else-index-len-clause-value
returns-else-index-len-clause-value c =
    let full = c.self.inside.full in
    let place = c.args.place in
    let start = c.start.result in
    let before : start ≤ place =
    omega (arith, c.start.ensures, ap (λ (t : Chunks). length (joined t.full)) c.self.view_is, joined-length full.items c.self.invariant.0, c.if-index-len.false, c.len.ensures, full.ok.0, div-add-mod' place 512) in
    c.number_at-else-index-len.ensures ∙ ap (λ xs. slice_get xs (place - start)) c.deref.ensures.value
    ∙ sym (get-right (joined full.items) c.self.inside.last.items place (place - start)
    (omega (arith, c.start.ensures, ap (λ (t : Chunks). length (joined t.full)) c.self.view_is, before)))
    ∙ ap (λ (t : Chunks). slice_get (numbers t) place) c.self.view_is
