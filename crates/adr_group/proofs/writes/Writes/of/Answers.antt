use Rattle.std.proofs.Common.{subst}
use Rattle.std.specs.List.Sorted.{IsStrictlyIncreasing}
use Rattle.std.proofs.lemmas.List.Filters.{dedup_is}
use Rattle.std.proofs.lemmas.Map.Keys.{IsStrictlyIncreasing-dedup}
use Rattle.adr_group.proofs.Numbers.{sorted_has}
use Rattle.adr_group.proofs.writes.Writes.of.Goals as goal

pub invariant_of-result-2 : goal.invariant_of-result-2
invariant_of-result-2 c = let is = dedup_is _ _ _ c.dedup.ensures.filtered in rw is (IsStrictlyIncreasing-dedup _ c.sort_unstable.ensures.sorted)

pub returns : goal.returns
returns c n = sorted_has _ _ _ c.sort_unstable.ensures.permutation (dedup_is _ _ _ c.dedup.ensures.filtered) n

pub invariant_of-result : goal.invariant_of-result
invariant_of-result c = subst IsStrictlyIncreasing c.deref.ensures.value (c.ascend.ensures c.if-ascend.true)
