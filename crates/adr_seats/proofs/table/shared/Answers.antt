use Rattle.std.proofs.Common.{◌≡◌, ◌++◌, [], ◌∷◌, false, ap, sym, subst, ◌∙◌}
use Rattle.std.proofs.lemmas.List.{append_assoc}
use Rattle.adr_seats.specs.Table.{joined, AreFull}
use Rattle.adr_seats.proofs.Chunks.{joined-last, full-last}
use Rattle.adr_seats.proofs.table.shared.Goals as goal

pub rest-preserved : goal.rest-preserved
rest-preserved c =
    let copies = c.rest.copies.items in
    let chunk = c.in-Some.chunk.now in
    let more = c.in-Some.more.now in
    let first : c.rest.rest.now ≡ chunk ∷ more = c.in-Some.ensures.cases.0 in
    let pushed : c.push.new.self.items ≡ copies ++ (false, chunk.1) ∷ [] = c.in_ok-push.ensures.items ∙ ap (λ d. copies ++ d ∷ []) c.in_ok-share.ensures in
    record {
      same = ap (λ xs. joined xs ++ joined more) pushed ∙ ap (λ xs. xs ++ joined more) (joined-last copies false chunk.1)
          ∙ append_assoc (joined copies) chunk.1 (joined more) ∙ ap (λ xs. joined copies ++ joined xs) (sym first) ∙ c.rest.invariant.same;
      full = λ f.
          let kept = c.rest.invariant.full f in
          let left : AreFull (chunk ∷ more) = subst AreFull first kept.1 in
          (subst AreFull (sym pushed) (full-last copies false chunk.1 kept.0 left.0), left.1);
    }
