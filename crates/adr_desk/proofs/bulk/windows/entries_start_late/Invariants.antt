use Rattle.std.proofs.Common.{◌≡◌, ◌⊎◌, ℤ, ◌≤ℤ◌, true, length}
use Rattle.adr_lines.specs.Grouped.{any_covers_at}
use Rattle.adr_desk.proofs.bulk.windows.entries_start_late.Given as goal

-- what is covered is covered by an entry that is left, or is no earlier
abbrev pub invariant-rest : goal.invariant-rest
invariant-rest l = (t : ℤ) → any_covers_at l.entries t ≡ true → (any_covers_at l.rest t ≡ true) ⊎ (l.fn.from ≤ℤ t)

abbrev pub decreases-rest : goal.decreases-rest
decreases-rest l = length l.rest
