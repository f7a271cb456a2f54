use Rattle.std.proofs.Common.{◌≡◌, ◌++◌, [], ◌∷◌, true, take, ap, sym, subst, ◌∙◌}
use Rattle.std.proofs.lemmas.List.{append_assoc, take-append-drop}
use Rattle.adr_seats.specs.Table.{joined, AreFull}
use Rattle.adr_seats.proofs.Chunks.{joined-last, full-last}
use Rattle.adr_seats.proofs.table.divided.Goals as goal

pub rest-preserved : goal.rest-preserved
rest-preserved c =
    let full = c.rest.full.items in
    let rest = c.rest.rest.now in
    let front = c.split_at.result.0.now in
    let back = c.split_at.result.1.now in
    let pushed : c.push.new.self.items ≡ full ++ (true, front) ∷ [] = c.in_ok-push.ensures.items ∙ ap (λ d. full ++ d ∷ []) c.in_ok-own.ensures in
    let parts : front ++ back ≡ rest =
    ap (λ xs. xs ++ back) c.split_at.ensures.front ∙ ap (λ ys. take 512 rest ++ ys) c.split_at.ensures.back ∙ take-append-drop 512 rest in
    record {
      same = ap (λ xs. joined xs ++ back) pushed ∙ ap (λ xs. xs ++ back) (joined-last full true front)
          ∙ append_assoc (joined full) front back ∙ ap (λ xs. joined full ++ xs) parts ∙ c.rest.invariant.same;
      full = subst AreFull (sym pushed) (full-last full true front c.rest.invariant.full c.split_at.ensures.front_len);
    }
