use Rattle.std.proofs.Common.{◌≡◌, ◌+◌, ◌≤◌, ℤ, if◌then◌else◌, length}
use Rattle.adr_value.specs.declared.payload.PayloadType.{PayloadType}
use Rattle.adr_model.specs.Governor.{winner_at}
use Rattle.adr_lines.specs.Grouped.{any_covers_at, entries_under}
use Rattle.adr_lines.specs.Right.{written_in}
use Rattle.adr_lines.specs.Indexes.{under}
use Rattle.adr_group.specs.Group.{shown_in}
use Rattle.adr_group.specs.Repair.{most_repaired}
use Rattle.adr_group.proofs.repair.repaired.Given as goal

-- the types that are left make of the timelines what all make of the old ones
abbrev pub invariant-rest : goal.invariant-rest
invariant-rest l = record {
  shown : (k : PayloadType) (t : ℤ)
      → (if any_covers_at (entries_under l.rest k) t then winner_at (written_in l.writes (under l.indexes k)) t else shown_in l.lines k t)
      ≡ (if any_covers_at (entries_under l.windows k) t then winner_at (written_in l.writes (under l.indexes k)) t else shown_in l.old k t);
  compared : l.meter + most_repaired l.rest l.writes l.indexes ≤ l.fn.meter + most_repaired l.windows l.writes l.indexes;
}

abbrev pub decreases-rest : goal.decreases-rest
decreases-rest l = length l.rest
