use Rattle.std.proofs.Common.{◌≡◌, ◌<◌, ◌≤◌, ◌++◌, ◌/◌, true, length, set, ap, sym, subst, ◌∙◌, arith}
use Rattle.adr_seats.specs.Table.{Chunks, joined, numbers, is_own, may_write, AreFull}
use Rattle.adr_seats.proofs.Chunks.{joined-own, full-set, full-get, may-self, may-keep}
use Rattle.adr_seats.proofs.table.SlotTable.unshare.Goals as goal

pub invariant_of-self : goal.invariant_of-self
invariant_of-self c =
    let full = c.self.inside.full.items in
    let last = c.self.inside.last.items in
    let index = c.args.place / 512 in
    let chunk = c.index.result.now in
    let own : c.in_ok-self-inside.field-0 ≡ (true, chunk.1) = c.in_ok-self-inside.ensures ∙ ap (λ xs. (true, xs)) c.numbers.ensures in
    let within : index < length full = subst (λ (t : Chunks). index < length t.full) (sym c.self.view_is) c.requires in
    let same : joined (set full index c.in_ok-self-inside.field-0) ++ last ≡ joined full ++ last =
    ap (λ x. joined (set full index x) ++ last) own ∙ ap (λ xs. xs ++ last) (joined-own full index true chunk c.index.ensures) in
    let small : length (joined full ++ last) ≤ 2147483648 = c.self.invariant.1 in (
      subst (λ x. AreFull (set full index x)) (sym own) (full-set full index true chunk.1 c.self.invariant.0 (full-get full index chunk c.self.invariant.0 within c.index.ensures)),
      omega (arith, ap length same, small),
    )

pub returns-clause-same : goal.returns-clause-same
returns-clause-same c =
    let full = c.self.inside.full.items in
    let last = c.self.inside.last.items in
    let index = c.args.place / 512 in
    let chunk = c.index.result.now in
    let own : c.in_ok-self-inside.field-0 ≡ (true, chunk.1) = c.in_ok-self-inside.ensures ∙ ap (λ xs. (true, xs)) c.numbers.ensures in
    ap (λ x. joined (set full index x) ++ last) own ∙ ap (λ xs. xs ++ last) (joined-own full index true chunk c.index.ensures) ∙ ap numbers c.self.view_is

pub returns-clause-own : goal.returns-clause-own
returns-clause-own c =
    let full = c.self.inside.full.items in
    let index = c.args.place / 512 in
    let chunk = c.index.result.now in
    let own : c.in_ok-self-inside.field-0 ≡ (true, chunk.1) = c.in_ok-self-inside.ensures ∙ ap (λ xs. (true, xs)) c.numbers.ensures in
    ap (λ x. may_write (set full index x) index) own ∙ may-self full index chunk.1

pub returns-clause-keeps : goal.returns-clause-keeps
returns-clause-keeps c other h =
    let full = c.self.inside.full.items in
    let index = c.args.place / 512 in
    let chunk = c.index.result.now in
    let own : c.in_ok-self-inside.field-0 ≡ (true, chunk.1) = c.in_ok-self-inside.ensures ∙ ap (λ xs. (true, xs)) c.numbers.ensures in
    ap (λ x. may_write (set full index x) (other / 512)) own ∙ may-keep full index (other / 512) chunk.1 (ap (λ (t : Chunks). is_own t other) c.self.view_is ∙ h)
