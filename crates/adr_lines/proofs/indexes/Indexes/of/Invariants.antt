use Rattle.std.specs.Vec.Iter.{into_iter_items}
use Rattle.adr_lines.proofs.Filled.{AreFilled}
use Rattle.adr_lines.proofs.indexes.Indexes.of.Given as goal

-- the types so far are filled
abbrev pub invariant-loop-group : goal.invariant-loop-group
invariant-loop-group l = AreFilled l.fn.groups.items (into_iter_items l.group-iterator) l.indexes
