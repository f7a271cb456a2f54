use Rattle.std.proofs.Common.{◌≡◌, length}
use Rattle.adr_model.specs.Timeline.{IsCanonical}
use Rattle.adr_timeline.specs.Chunks.{listed}
use Rattle.adr_timeline.specs.Parts.{part, joined_all}
use Rattle.adr_timeline.proofs.part.join_each_chunk.Given as goal

-- the chunks that are left are canonical, and lead to the same
abbrev pub invariant-loop-chunk : goal.invariant-loop-chunk
invariant-loop-chunk l =
    IsCanonical (listed l.chunks)
    × (joined_all l.line (part l.from l.until (listed l.chunks)) ≡ joined_all l.fn.line (part l.from l.until (listed l.fn.chunks)))

abbrev pub decreases-loop-chunk : goal.decreases-loop-chunk
decreases-loop-chunk l = length l.chunks
