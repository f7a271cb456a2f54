use Rattle.std.proofs.Common.{◌≤◌, ◌+◌, length, sum_by}
use Rattle.adr_schedule.proofs.made.count.Given as goal

-- what is counted, and what is left to count, is no more than all
abbrev pub invariant-rest : goal.invariant-rest
invariant-rest l = l.meter + sum_by (λ d. d.compared) l.rest ≤ l.fn.meter + sum_by (λ d. d.compared) l.done

abbrev pub decreases-rest : goal.decreases-rest
decreases-rest l = length l.rest
