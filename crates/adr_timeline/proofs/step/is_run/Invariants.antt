use Rattle.std.proofs.Common.{◌≡◌, length}
use Rattle.adr_timeline.specs.Steps.{is_run}
use Rattle.adr_timeline.proofs.step.is_run.Given as goal

-- the entries that are left decide
abbrev pub invariant-loop-entry : goal.invariant-loop-entry
invariant-loop-entry l = is_run l.entries ≡ is_run l.fn.entries

abbrev pub decreases-loop-entry : goal.decreases-loop-entry
decreases-loop-entry l = length l.entries
