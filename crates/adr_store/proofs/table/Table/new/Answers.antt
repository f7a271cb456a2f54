use Rattle.std.proofs.Common.{refl, arith}
use Rattle.std.specs.List.{IsDistinct}
use Rattle.std.specs.List.Sorted.{IsStrictlySortedBy}
use Rattle.adr_store.proofs.table.Table.new.Goals as goal

pub invariant_of-result : goal.invariant_of-result
unfolding IsDistinct IsStrictlySortedBy
invariant_of-result g c = rw (c.new.ensures, c.new-2.ensures) (record { found = λ id. refl; distinct = tt; ordered = tt; earlier = tt }, λ n h. absurd (omega (arith, h)))
