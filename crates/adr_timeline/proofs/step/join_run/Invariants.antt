use Rattle.std.proofs.Common.{◌≡◌, drop, map}
use Rattle.adr_timeline.specs.Parts.{part, joined_all}
use Rattle.adr_timeline.specs.Steps.{own_segment}
use Rattle.adr_timeline.proofs.step.join_run.Given as goal

-- the segments of the entries that are left lead to the same
abbrev pub invariant-loop-entry : goal.invariant-loop-entry
invariant-loop-entry l = joined_all l.line (part l.from l.window.end (map own_segment (drop l.entry-index l.entries))) ≡ joined_all l.fn.line (part l.from l.window.end (map own_segment l.entries))
