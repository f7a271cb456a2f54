use Rattle.std.proofs.Common.{◌≡◌, ◌<◌, ◌≤◌, ◌/◌, ◌%◌, ◌++◌, true, length, set, ap, sym, subst, ◌∙◌, arith, length-append}
use Rattle.std.proofs.lemmas.List.{set-append_right, length-set}
use Rattle.std.proofs.lemmas.Nat.{div-add-mod'}
use Rattle.adr_seats.specs.Table.{Chunks, joined, numbers, is_own, may_write, AreFull}
use Rattle.adr_seats.proofs.Chunks.{joined-length, written, full-set, full-get, may-get, may-keep}
use Rattle.adr_seats.proofs.table.SlotTable.put.Goals as goal

pub put-requires-clause-own : goal.put-requires-clause-own
put-requires-clause-own c =
    let full = c.self.inside.full in
    sym (may-get full.items (c.args.place / 512) c.index_mut.result.now (omega (arith, c.if-index-len.true, c.len.ensures, full.ok.0)) c.index_mut.ensures.value)
    ∙ ap (λ (t : Chunks). is_own t c.args.place) c.self.view_is ∙ c.requires.own

pub put-requires-clause-within : goal.put-requires-clause-within
put-requires-clause-within c =
    let full = c.self.inside.full in
    omega (arith, full-get full.items (c.args.place / 512) c.index_mut.result.now c.self.invariant.0 (omega (arith, c.if-index-len.true, c.len.ensures, full.ok.0)) c.index_mut.ensures.value)

pub invariant_of-self : goal.invariant_of-self
invariant_of-self c =
    let full = c.self.inside.full in
    let last = c.self.inside.last.items in
    let place = c.args.place in
    let chunk = c.index_mut.result.now in
    let within : place / 512 < length full.items = omega (arith, c.if-index-len.true, c.len.ensures, full.ok.0) in
    let same : joined (set full.items (place / 512) c.put.new.self) ++ last ≡ set (joined full.items ++ last) place c.args.number =
    ap (λ d. joined (set full.items (place / 512) d) ++ last) c.put.ensures
    ∙ written full.items last (place / 512) (place % 512) place c.args.number chunk c.self.invariant.0 within (omega arith) (sym (div-add-mod' place 512)) c.index_mut.ensures.value in
    let small : length (joined full.items ++ last) ≤ 2147483648 = c.self.invariant.1 in (
      subst (λ d. AreFull (set full.items (place / 512) d)) (sym c.put.ensures)
          (full-set full.items (place / 512) true (set chunk.1 (place % 512) c.args.number) c.self.invariant.0
          (length-set chunk.1 (place % 512) c.args.number ∙ full-get full.items (place / 512) chunk c.self.invariant.0 within c.index_mut.ensures.value)),
      omega (arith, ap length same, length-set (joined full.items ++ last) place c.args.number, small),
    )

pub overflow_sub-place : goal.overflow_sub-place
overflow_sub-place c =
    let full = c.self.inside.full in
    omega (arith, c.start-start.ensures, ap (λ (t : Chunks). length (joined t.full)) c.self.view_is, joined-length full.items c.self.invariant.0, c.if-index-len.false, c.len.ensures, full.ok.0, div-add-mod' c.args.place 512)

pub index_mut-requires-else-index-len : goal.index_mut-requires-else-index-len
index_mut-requires-else-index-len c =
    let full = c.self.inside.full in
    let last = c.self.inside.last in
    let place = c.args.place in
    let within : place < length (joined full.items ++ last.items) = subst (λ (t : Chunks). place < length (numbers t)) (sym c.self.view_is) c.requires.within in
    omega (
      arith,
      within,
      length-append (joined full.items) last.items,
      last.ok.0,
      c.start-start.ensures,
      ap (λ (t : Chunks). length (joined t.full)) c.self.view_is,
      joined-length full.items c.self.invariant.0,
      c.if-index-len.false,
      c.len.ensures,
      full.ok.0,
      div-add-mod' place 512,
    )

pub returns-then-index-len-clause-numbers : goal.returns-then-index-len-clause-numbers
returns-then-index-len-clause-numbers c =
    let full = c.self.inside.full in
    let last = c.self.inside.last.items in
    let place = c.args.place in
    ap (λ d. joined (set full.items (place / 512) d) ++ last) c.put.ensures
    ∙ written full.items last (place / 512) (place % 512) place c.args.number c.index_mut.result.now c.self.invariant.0
    (omega (arith, c.if-index-len.true, c.len.ensures, full.ok.0)) (omega arith) (sym (div-add-mod' place 512)) c.index_mut.ensures.value
    ∙ ap (λ (t : Chunks). set (numbers t) place c.args.number) c.self.view_is

pub returns-then-index-len-clause-own : goal.returns-then-index-len-clause-own
returns-then-index-len-clause-own c other h =
    let full = c.self.inside.full.items in
    let place = c.args.place in
    ap (λ d. may_write (set full (place / 512) d) (other / 512)) c.put.ensures
    ∙ may-keep full (place / 512) (other / 512) (set c.index_mut.result.now.1 (place % 512) c.args.number) (ap (λ (t : Chunks). is_own t other) c.self.view_is ∙ h)

pub returns-else-index-len-clause-numbers : goal.returns-else-index-len-clause-numbers
returns-else-index-len-clause-numbers c =
    let full = c.self.inside.full in
    let last = c.self.inside.last.items in
    let place = c.args.place in
    let start = c.start-start.result in
    let seam : length (joined full.items) ≡ start = ap (λ (t : Chunks). length (joined t.full)) c.self.view_is ∙ sym c.start-start.ensures in
    sym (set-append_right (joined full.items) last start place c.args.number seam
    (omega (arith, seam, joined-length full.items c.self.invariant.0, c.if-index-len.false, c.len.ensures, full.ok.0, div-add-mod' place 512)))
    ∙ ap (λ (t : Chunks). set (numbers t) place c.args.number) c.self.view_is
