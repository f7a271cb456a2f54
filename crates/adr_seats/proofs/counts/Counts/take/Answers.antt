use Rattle.std.proofs.Common.{◌≡◌, ℕ, get_or, unwrap_or, ap, sym, ◌∙◌, arith}
use Rattle.std.proofs.lemmas.Option.{unwrap_or-slice_get, get_or_from_slice_get}
use Rattle.adr_seats.specs.Table.{Chunks, numbers}
use Rattle.adr_seats.proofs.counts.Counts.take.Goals as goal

pub unreachable-requires : goal.unreachable-requires
unreachable-requires c =
    let xs = numbers c.self.inside.members in
    let none : get_or xs c.args.slot 0 ≡ 0 = sym (unwrap_or-slice_get xs c.args.slot 0) ∙ ap {B = ℕ} (λ o. unwrap_or o 0) (sym c.get.ensures.value ∙ c.in_default.is) in
    omega (arith, none, c.requires.some, ap (λ (t : Chunks). get_or (numbers t) c.args.slot 0) c.self.view_is)

pub overflow_sub-left : goal.overflow_sub-left
overflow_sub-left c =
    let xs = numbers c.self.inside.members in
    let count : get_or xs c.args.slot 0 ≡ c.in-Some.count = get_or_from_slice_get xs c.args.slot c.in-Some.count 0 (sym c.get.ensures.value ∙ c.in-Some.is) in
    omega (arith, count, c.requires.some, ap (λ (t : Chunks). get_or (numbers t) c.args.slot 0) c.self.view_is)
