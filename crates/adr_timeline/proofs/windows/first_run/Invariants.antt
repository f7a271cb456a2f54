use Rattle.std.proofs.Common.{◌≡◌, ◌+◌, ℕ, length, take}
use Rattle.adr_timeline.specs.Windows.{are_apart}
use Rattle.adr_timeline.proofs.windows.first_run.Given as goal

-- windows that are left are apart as they are with those that were counted
abbrev pub invariant-loop-window : goal.invariant-loop-window
invariant-loop-window l =
    (l.count + length l.rest ≡ length l.fn.windows)
    × ((m : ℕ) → are_apart (take (l.count + m) l.fn.windows) ≡ are_apart (take m l.rest))
    × (l.count ≡ 0 → l.rest ≡ l.fn.windows)

abbrev pub decreases-loop-window : goal.decreases-loop-window
decreases-loop-window l = length l.rest
