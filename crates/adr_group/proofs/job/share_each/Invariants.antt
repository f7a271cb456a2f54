use Rattle.std.proofs.Common.{◌≡◌, ◌++◌}
use Rattle.std.specs.Vec.Iter.{into_iter_items}
use Rattle.adr_group.proofs.job.share_each.Given as goal

-- what is shared, and the windows that are left
abbrev pub invariant-loop-group : goal.invariant-loop-group
invariant-loop-group l = l.shared.items ++ into_iter_items l.group-iterator ≡ l.fn.types.items
