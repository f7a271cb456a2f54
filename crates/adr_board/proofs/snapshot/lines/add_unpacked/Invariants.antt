use Rattle.std.proofs.Common.{◌≡◌, ◌++◌, drop}
use Rattle.adr_board.proofs.snapshot.lines.add_unpacked.Given as goal

-- the segments that are left come after the rest
abbrev pub invariant-loop-segment : goal.invariant-loop-segment
invariant-loop-segment l = l.segments.items ++ drop l.segment-index l.stored ≡ l.fn.segments.items ++ l.stored
