use Rattle.adr_timeline.proofs.Chunks.{chunk_joined, first_canonical}
use Rattle.adr_timeline.proofs.line.Line.join_each_chunk.Goals as goal

pub join_chunk-requires : goal.join_chunk-requires
join_chunk-requires c = first_canonical c.loop-chunk.chunks.now c.in-Some.rest.now c.in-Some.chunk.now c.in-Some.ensures.cases.0 c.loop-chunk.invariant.0

pub loop-chunk-preserved : goal.loop-chunk-preserved
loop-chunk-preserved c = chunk_joined c.loop-chunk.chunks.now c.in-Some.rest.now c.in-Some.chunk.now c.loop-chunk.self c.join_chunk.new.self _ c.in-Some.ensures.cases.0 c.loop-chunk.invariant.0 c.loop-chunk.invariant.1 c.in_ok-join_chunk.ensures
