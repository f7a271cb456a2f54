use Rattle.std.proofs.Common.{◌≡◌, ◌++◌, length}
use Rattle.adr_value.specs.declared.payload.PayloadType.{PayloadType}
use Rattle.adr_lines.specs.Grouped.{entries_under, HaveOwnTypes}
use Rattle.adr_desk.proofs.Gathered.{entries_in_turn}
use Rattle.adr_desk.proofs.bulk.gathering.gather.Given as goal

-- the entries so far, with those of the numbers that are left, are all
abbrev pub invariant-rest : goal.invariant-rest
invariant-rest l = record {
  entries : (k : PayloadType) →
      entries_under l.types.items k ++ entries_in_turn l.tie l.book.objects.events l.rest k ≡ entries_in_turn l.tie l.book.objects.events l.numbers k;
  types : HaveOwnTypes l.types.items;
}

abbrev pub decreases-rest : goal.decreases-rest
decreases-rest l = length l.rest
