use Rattle.std.proofs.Common.{◌≡◌, ◌+◌, ◌≤◌, length}
use Rattle.adr_value.specs.declared.payload.PayloadType.{PayloadType}
use Rattle.adr_index.specs.Index.{inserted_all, AreNew}
use Rattle.adr_lines.specs.Indexes.{spare_under, under}
use Rattle.adr_lines.specs.Grouped.{entries_under}
use Rattle.adr_lines.proofs.indexes.Indexes.put_all.Given as goal

-- what is left adds the rest, and takes the rest of the room
abbrev pub invariant-rest : goal.invariant-rest
invariant-rest l = record {
  entries : (k : PayloadType) → inserted_all (entries_under l.rest k) (under l.self k) ≡ inserted_all (entries_under l.come k) (under l.fn.self k);
  fresh : (k : PayloadType) → AreNew (entries_under l.rest k) (under l.self k);
  room : (k : PayloadType) → length (entries_under l.rest k) ≤ spare_under l.self k;
  spare : (k : PayloadType) → spare_under l.fn.self k + length (entries_under l.rest k) ≤ spare_under l.self k + length (entries_under l.come k);
}

abbrev pub decreases-rest : goal.decreases-rest
decreases-rest l = length l.rest
