use Rattle.std.proofs.Common.{◌≡◌, length}
use Rattle.adr_timeline.specs.Windows.{are_apart}
use Rattle.adr_timeline.proofs.windows.are_apart.Given as goal

-- the windows that are left decide
abbrev pub invariant-loop-window : goal.invariant-loop-window
invariant-loop-window l = are_apart l.windows ≡ are_apart l.fn.windows

abbrev pub decreases-loop-window : goal.decreases-loop-window
decreases-loop-window l = length l.windows
