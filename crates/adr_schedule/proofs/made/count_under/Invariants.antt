use Rattle.std.proofs.Common.{◌≡◌, ◌+◌, ◌≤◌, length}
use Rattle.adr_lines.specs.Grouped.{entries_under}
use Rattle.adr_schedule.proofs.made.count_under.Given as goal

-- what was counted, and what is left
abbrev pub invariant-rest : goal.invariant-rest
invariant-rest l = length (entries_under l.types l.payload_type) ≤ l.most → l.count + length (entries_under l.rest l.payload_type) ≡ length (entries_under l.types l.payload_type)

abbrev pub decreases-rest : goal.decreases-rest
decreases-rest l = length l.rest
