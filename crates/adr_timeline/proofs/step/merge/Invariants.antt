use Rattle.std.proofs.Common.{◌≡◌, ◌+◌, ◌-◌, length}
use Rattle.adr_timeline.specs.Steps.{Adds, lesser}
use Rattle.adr_timeline.proofs.Merged.{IsBegun}
use Rattle.adr_timeline.proofs.step.merge.Given as goal

abbrev pub invariant-loop-passed_left : goal.invariant-loop-passed_left
invariant-loop-passed_left g l = (l.shown ≡ lesser l.left_rank l.right_rank) × Adds (λ done. IsBegun l.left (g.R.StepList.listed l.right) done l.left_rank l.right_rank l.passed_left l.passed_right l.meter l.fn.meter) l.fn.steps.items l.steps.items

-- the steps that are left
abbrev pub decreases-loop-passed_left : goal.decreases-loop-passed_left
decreases-loop-passed_left g l = (length l.left + length (g.R.StepList.listed l.right)) - (l.passed_left + l.passed_right)
