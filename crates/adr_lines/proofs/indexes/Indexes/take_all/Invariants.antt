use Rattle.std.proofs.Common.{◌≡◌, ◌≤◌, length}
use Rattle.adr_value.specs.declared.payload.PayloadType.{PayloadType}
use Rattle.adr_index.specs.Index.{others_all}
use Rattle.adr_lines.specs.Indexes.{spare_under, under}
use Rattle.adr_lines.specs.Grouped.{entries_under}
use Rattle.adr_lines.proofs.indexes.Indexes.take_all.Given as goal

-- what is left takes out the rest
abbrev pub invariant-rest : goal.invariant-rest
invariant-rest l = record {
  entries : (k : PayloadType) → others_all (entries_under l.rest k) (under l.self k) ≡ others_all (entries_under l.gone k) (under l.fn.self k);
  spare : (k : PayloadType) → spare_under l.fn.self k ≤ spare_under l.self k;
}

abbrev pub decreases-rest : goal.decreases-rest
decreases-rest l = length l.rest
