use Rattle.std.proofs.Common.{◌≡◌, ◌++◌}
use Rattle.std.specs.Vec.Iter.{into_iter_items}
use Rattle.adr_value.specs.declared.payload.PayloadType.{PayloadType}
use Rattle.adr_lines.specs.Grouped.{entries_under, HaveOwnTypes}
use Rattle.adr_desk.proofs.bulk.gathering.add_groups.Given as goal

-- what is added, with the groups that are left, is all
abbrev pub invariant-loop-group : goal.invariant-loop-group
invariant-loop-group l = record {
  entries : (k : PayloadType) → entries_under l.types.items k ++ entries_under (into_iter_items l.group-iterator) k ≡ entries_under l.fn.types.items k ++ entries_under l.fn.groups.items k;
  types : HaveOwnTypes l.types.items;
}
