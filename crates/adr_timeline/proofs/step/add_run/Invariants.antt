use Rattle.std.proofs.Common.{◌≡◌, ◌++◌, drop}
use Rattle.adr_timeline.specs.Steps.{steps_in_turn}
use Rattle.adr_timeline.proofs.step.add_run.Given as goal

-- the steps of the entries that are left come after the rest
abbrev pub invariant-loop-entry : goal.invariant-loop-entry
invariant-loop-entry l = l.steps.items ++ steps_in_turn (drop l.entry-index l.entries) ≡ l.fn.steps.items ++ steps_in_turn l.entries
