use Rattle.std.proofs.Common.{◌≡◌, ℤ, length}
use Rattle.adr_lines.specs.Grouped.{any_covers_at}
use Rattle.adr_group.proofs.windows.have_same_spans.Given as goal

-- where those that are left cover the same, all do
abbrev pub invariant-rest : goal.invariant-rest
invariant-rest l = ((t : ℤ) → any_covers_at l.left t ≡ any_covers_at l.right t) → (t : ℤ) → any_covers_at l.windows t ≡ any_covers_at l.others t

abbrev pub decreases-rest : goal.decreases-rest
decreases-rest l = length l.left
