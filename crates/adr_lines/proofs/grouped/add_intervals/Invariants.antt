use Rattle.std.proofs.Common.{◌≡◌, ◌++◌, length}
use Rattle.adr_value.specs.declared.payload.PayloadType.{PayloadType}
use Rattle.adr_lines.specs.Grouped.{entries_at, entries_under, written_event, HaveOwnTypes}
use Rattle.adr_lines.proofs.grouped.add_intervals.Given as goal

-- the entries so far, and then those of the intervals that are left
abbrev pub invariant-rest : goal.invariant-rest
invariant-rest l = record {
  entries : (k : PayloadType) →
      entries_under l.groups.items k ++ entries_at l.tie (written_event l.event l.written) l.intervals l.places k
      ≡ entries_under l.fn.groups.items k ++ entries_at l.tie (written_event l.event l.written) l.event.intervals l.fn.places k;
  types : HaveOwnTypes l.groups.items;
}

abbrev pub decreases-rest : goal.decreases-rest
decreases-rest l = length l.places
