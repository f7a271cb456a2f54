use Rattle.std.proofs.Common.{◌≡◌, ◌≤◌, ◌+◌, length}
use Rattle.adr_model.specs.Entries.{meeting}
use Rattle.adr_timeline.specs.Build.{most_compared_all}
use Rattle.adr_timeline.proofs.Built.{IsUnderWay}
use Rattle.adr_timeline.proofs.build.join_windows.Given as goal

-- the windows that are left lead to the same, no more is compared for all, and what is near was found by one look-up
abbrev pub invariant-loop-window : goal.invariant-loop-window
invariant-loop-window g l =
    IsUnderWay (g.S.Source.entries l.source) l.fn.windows l.rest l.line
    × (l.meter + most_compared_all (g.S.Source.entries l.source) l.rest ≤ l.fn.meter + most_compared_all (g.S.Source.entries l.source) l.fn.windows)
    × (l.near.entries.items ≡ meeting (g.S.Source.entries l.source) l.near.span)

abbrev pub decreases-loop-window : goal.decreases-loop-window
decreases-loop-window g l = length l.rest
