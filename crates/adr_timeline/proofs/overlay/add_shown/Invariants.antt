use Rattle.std.proofs.Common.{◌≡◌, ◌++◌, drop, map}
use Rattle.adr_timeline.specs.Overlay.{shown_entry}
use Rattle.adr_timeline.proofs.overlay.add_shown.Given as goal

-- the entries of the segments that are left come after the rest
abbrev pub invariant-loop-segment : goal.invariant-loop-segment
invariant-loop-segment g l = l.entries.items ++ map (shown_entry (g.R.Ranks.rank l.ranks)) (drop l.segment-index l.segments) ≡ l.fn.entries.items ++ map (shown_entry (g.R.Ranks.rank l.ranks)) l.segments
