use Rattle.std.proofs.Common.{length, refl}
use Rattle.std.proofs.lemmas.List.Sorted.{length_permutation}
use Rattle.std.proofs.lemmas.Result.{IfOk-weaker}
use Rattle.adr_trials.proofs.Rising.{below_permuted, rising_distinct}
use Rattle.adr_trials.proofs.indexes.filled.index_of.Goals as goal

pub filled-requires : goal.filled-requires
filled-requires c = rw c.in_ok-copy.ensures.items (rising_distinct 0 c.args.entries.now c.requires)

pub returns-clause-below : goal.returns-clause-below
returns-clause-below c =
    IfOk-weaker c.filled.result _ _
    (λ index same. below_permuted (length c.args.entries.now) c.args.entries.now index.entries c.requires refl (rw c.in_ok-copy.ensures.items at same))
    c.filled.ensures

pub returns-clause-length : goal.returns-clause-length
returns-clause-length c =
    IfOk-weaker c.filled.result _ _
    (λ index same. length_permutation c.args.entries.now index.entries (rw c.in_ok-copy.ensures.items at same))
    c.filled.ensures
