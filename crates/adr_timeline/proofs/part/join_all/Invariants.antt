use Rattle.std.proofs.Common.{◌≡◌, drop, None}
use Rattle.adr_timeline.specs.Chunks.{listed}
use Rattle.adr_timeline.specs.Parts.{spliced_all}
use Rattle.adr_timeline.proofs.part.join_all.Given as goal

-- the windows that are left lead to the same
abbrev pub invariant-loop-window : goal.invariant-loop-window
invariant-loop-window l = spliced_all l.passed l.line (listed l.outer) (listed l.inner) (drop l.window-index l.windows) ≡ spliced_all None l.fn.line (listed l.outer) (listed l.inner) l.windows
