use Rattle.std.proofs.Common.{◌≡◌, ◌++◌, length}
use Rattle.adr_timeline.specs.Chunks.{listed}
use Rattle.adr_timeline.proofs.line.Line.add_chunks.Given as goal

-- the chunks that are left come after the rest
abbrev pub invariant-loop-chunk : goal.invariant-loop-chunk
invariant-loop-chunk l = l.self ++ listed l.chunks ≡ l.fn.self ++ listed l.fn.chunks

abbrev pub decreases-loop-chunk : goal.decreases-loop-chunk
decreases-loop-chunk l = length l.chunks
