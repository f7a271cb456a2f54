use Rattle.std.proofs.Common.{◌≡◌, ◌⊎◌, ℤ, true, length}
use Rattle.adr_value.specs.declared.payload.PayloadType.{PayloadType}
use Rattle.adr_lines.specs.Grouped.{any_covers_at, entries_under}
use Rattle.adr_desk.specs.Bulk.{AreFrom}
use Rattle.adr_desk.proofs.bulk.windows.whole_windows.Given as goal

-- what the groups cover is covered by a window, or by a group that is left
abbrev pub invariant-rest : goal.invariant-rest
invariant-rest l = record {
  windows : AreFrom l.from l.windows.items;
  covers : (k : PayloadType) (t : ℤ) → any_covers_at (entries_under l.groups k) t ≡ true
      → (any_covers_at (entries_under l.windows.items k) t ≡ true) ⊎ (any_covers_at (entries_under l.rest k) t ≡ true);
}

abbrev pub decreases-rest : goal.decreases-rest
decreases-rest l = length l.rest
