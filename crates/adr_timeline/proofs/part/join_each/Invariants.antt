use Rattle.std.proofs.Common.{◌≡◌, drop}
use Rattle.adr_timeline.specs.Parts.{part, joined_all}
use Rattle.adr_timeline.proofs.part.join_each.Given as goal

-- what is left leads to the same
abbrev pub invariant-loop-segment : goal.invariant-loop-segment
invariant-loop-segment l = joined_all l.line (part l.from l.until (drop l.segment-index l.segments)) ≡ joined_all l.fn.line (part l.from l.until l.segments)
