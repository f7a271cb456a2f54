use Rattle.std.proofs.Common.{◌≡◌, ◌≤◌, ◌+◌, ◌++◌, ℕ, List, map, length}
use Rattle.adr_value.specs.declared.payload.PayloadType.{PayloadType}
use Rattle.adr_model.specs.declared.written.Written.{Written}
use Rattle.adr_model.specs.Rank.{ranked}
use Rattle.adr_lines.specs.Grouped.{entries_under}
use Rattle.adr_lines.specs.declared.indexes.Indexes.{Indexes}
use Rattle.adr_group.specs.Repair.{most_repaired}
use Rattle.adr_regroup.specs.Compared.{cost_but, IsMostFor}
use Rattle.adr_regroup.specs.Party.{entries_but}
use Rattle.adr_regroup.proofs.spot.add_events.Given as goal

-- the entries so far, and then those of the numbers that are left
abbrev pub invariant-rest : goal.invariant-rest
invariant-rest l = record {
  entries : (k : PayloadType)
      → entries_under l.windows.items k ++ map (ranked l.tie) (entries_but l.book.objects.events l.rest l.others k)
      ≡ entries_under l.fn.windows.items k ++ map (ranked l.tie) (entries_but l.book.objects.events l.numbers l.others k);
  least : (indexes : Indexes) (writes : List ℕ) (cost : Written → ℕ) → IsMostFor l.tie l.book.objects.events indexes writes cost
      → most_repaired l.windows.items writes indexes + cost_but cost l.book.objects.events l.rest l.others ≤ most_repaired l.fn.windows.items writes indexes + cost_but cost l.book.objects.events l.numbers l.others;
}

abbrev pub decreases-rest : goal.decreases-rest
decreases-rest l = length l.rest
