use Rattle.std.proofs.Common.{◌≡◌, ◌++◌, ◌∷◌, ap, sym, ◌∙◌}
use Rattle.std.proofs.lemmas.List.{append_assoc}
use Rattle.adr_seats.specs.Table.{joined}
use Rattle.adr_seats.proofs.table.gathered.Goals as goal

pub rest-preserved : goal.rest-preserved
rest-preserved c =
    let all = c.rest.all.items in
    let chunk = c.in-Some.chunk.now in
    let more = c.in-Some.more.now in
    let first : c.rest.rest.now ≡ chunk ∷ more = c.in-Some.ensures.cases.0 in
    ap (λ xs. xs ++ joined more) (c.in_ok-extend_from_slice.ensures.items ∙ ap (λ xs. all ++ xs) c.numbers.ensures)
    ∙ append_assoc all chunk.1 (joined more) ∙ ap (λ xs. all ++ joined xs) (sym first) ∙ c.rest.invariant
