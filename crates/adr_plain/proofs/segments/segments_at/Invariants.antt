use Rattle.std.proofs.Common.{◌≡◌, take}
use Rattle.std.specs.List.{flat_map}
use Rattle.adr_plain.specs.Scan.{segment_at}
use Rattle.adr_plain.proofs.segments.segments_at.Given as goal

-- the segments of the moments so far
abbrev pub invariant-loop-moment : goal.invariant-loop-moment
invariant-loop-moment l = l.segments.items ≡ flat_map (segment_at l.window.entries.now l.window.from l.window.to) (take l.moment-index l.moments)
