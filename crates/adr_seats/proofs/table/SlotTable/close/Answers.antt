use Rattle.std.proofs.Common.{◌≡◌, ◌≤◌, ◌++◌, [], ◌∷◌, true, length, ap, sym, subst, ◌∙◌, arith}
use Rattle.std.proofs.lemmas.List.{append-nil}
use Rattle.adr_seats.specs.Table.{Chunks, joined, numbers, AreFull}
use Rattle.adr_seats.proofs.Chunks.{joined-last, full-last}
use Rattle.adr_seats.proofs.table.SlotTable.close.Goals as goal

pub invariant_of-self-2 : goal.invariant_of-self-2
invariant_of-self-2 c =
    let full = c.self.inside.full.items in
    let last = c.self.inside.last.items in
    let more = c.push.new.self.items in
    let pushed : more ≡ full ++ (true, last) ∷ [] =
    c.in_ok-push.ensures.items ∙ ap (λ d. full ++ d ∷ []) (c.in_ok-own.ensures ∙ ap (λ xs. (true, xs)) c.deref.ensures.value) in
    let same : joined more ++ c.clear.new.self.items ≡ joined full ++ last =
    ap (λ xs. xs ++ c.clear.new.self.items) (ap joined pushed ∙ joined-last full true last)
    ∙ ap (λ ys. (joined full ++ last) ++ ys) c.clear.ensures.items ∙ append-nil (joined full ++ last) in
    let small : length (joined full ++ last) ≤ 2147483648 = c.self.invariant.1 in (
      subst AreFull (sym pushed) (full-last full true last c.self.invariant.0 (ap (λ (t : Chunks). length t.last) c.self.view_is ∙ c.requires)),
      omega (arith, ap length same, small),
    )

pub returns-clause-same : goal.returns-clause-same
returns-clause-same c =
    let full = c.self.inside.full.items in
    let last = c.self.inside.last.items in
    let pushed : c.push.new.self.items ≡ full ++ (true, last) ∷ [] =
    c.in_ok-push.ensures.items ∙ ap (λ d. full ++ d ∷ []) (c.in_ok-own.ensures ∙ ap (λ xs. (true, xs)) c.deref.ensures.value) in
    ap (λ xs. xs ++ c.clear.new.self.items) (ap joined pushed ∙ joined-last full true last)
    ∙ ap (λ ys. (joined full ++ last) ++ ys) c.clear.ensures.items ∙ append-nil (joined full ++ last) ∙ ap numbers c.self.view_is
