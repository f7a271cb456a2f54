use Rattle.std.proofs.Common.{◌≡◌, drop, Some}
use Rattle.adr_timeline.specs.Parts.{part, joined_all}
use Rattle.adr_timeline.specs.Steps.{pieces}
use Rattle.adr_timeline.proofs.step.join_steps.Given as goal

-- what is left leads to the same
abbrev pub invariant-loop-place : goal.invariant-loop-place
invariant-loop-place l = joined_all l.line (part (Some l.window.start) l.window.end (pieces (drop l.place l.steps))) ≡ joined_all l.fn.line (part (Some l.window.start) l.window.end (pieces l.steps))
