use Rattle.std.proofs.Common.{◌≡◌, ◌≤◌, ◌⊎◌, true, length}
use Rattle.adr_value.specs.declared.payload.PayloadType.{PayloadType}
use Rattle.adr_lines.specs.Indexes.{has_type, spare_under, under, wanted_under}
use Rattle.adr_lines.proofs.indexes.Indexes.reserve_types.Given as goal

-- each type has room, or one of the groups that are left is of it
abbrev pub invariant-rest : goal.invariant-rest
invariant-rest l = record {
  entries : (k : PayloadType) → under l.self k ≡ under l.fn.self k;
  kept : (k : PayloadType) → spare_under l.fn.self k ≤ spare_under l.self k;
  room : (k : PayloadType) → has_type l.groups k ≡ true → (has_type l.rest k ≡ true) ⊎ (wanted_under l.gone l.come k ≤ spare_under l.self k);
}

abbrev pub decreases-rest : goal.decreases-rest
decreases-rest l = length l.rest
