use Rattle.std.proofs.Common.{rules, of_calls}
use Rattle.std.proofs.lemmas.Fn.{always_returns_same}
use Rattle.adr_model.specs.Entries.{is_listed_before}
use Rattle.adr_index.proofs.Sorted.{distinct_permuted, listed_weakly, ordered_sorted}
use Rattle.adr_index.proofs.order.sort.Goals as goal

pub returns-clause-order : goal.returns-clause-order
returns-clause-order c =
    let sorted = c.sort_unstable_by.ensures.sorted is_listed_before listed_weakly (always_returns_same _ _ _ (λ a r f k. search (rules, of_calls))) in
    ordered_sorted _ sorted (distinct_permuted _ _ c.sort_unstable_by.ensures.permutation c.requires)
