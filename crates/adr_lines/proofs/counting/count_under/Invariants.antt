use Rattle.std.proofs.Common.{◌≡◌, ◌+◌, length}
use Rattle.adr_lines.specs.Grouped.{entries_under}
use Rattle.adr_lines.proofs.counting.count_under.Given as goal

-- those so far, and those that are left
abbrev pub invariant-rest : goal.invariant-rest
invariant-rest l = l.count + length (entries_under l.rest l.payload_type) ≡ length (entries_under l.groups l.payload_type)

abbrev pub decreases-rest : goal.decreases-rest
decreases-rest l = length l.rest
