use Rattle.std.proofs.Common.{◌≡◌, ◌++◌, take}
use Rattle.adr_value.specs.declared.payload.PayloadType.{PayloadType}
use Rattle.adr_model.specs.Touches.{types_of}
use Rattle.adr_lines.specs.Grouped.{entries_under, once_for_each, HaveOwnTypes}
use Rattle.adr_lines.proofs.grouped.add_types.Given as goal

-- the entry is under each of the types of the payloads so far
abbrev pub invariant-loop-place : goal.invariant-loop-place
invariant-loop-place l = record {
  entries : (k : PayloadType) → entries_under l.groups.items k ≡ entries_under l.fn.groups.items k ++ once_for_each l.entry (types_of (take l.place l.payloads)) k;
  types : HaveOwnTypes l.groups.items;
}
