use Rattle.std.proofs.Common.{◌≡◌, ◌++◌, length}
use Rattle.adr_timeline.specs.Chunks.{listed}
use Rattle.adr_board.proofs.snapshot.lines.joined.Given as goal

-- those so far and those of the rest are all
abbrev pub invariant-rest : goal.invariant-rest
invariant-rest l = l.segments.items ++ listed l.rest ≡ listed l.fn.chunks

abbrev pub decreases-rest : goal.decreases-rest
decreases-rest l = length l.rest
