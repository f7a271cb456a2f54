use Rattle.adr_index.specs.Chunks.{IsChunk}
use Rattle.adr_index.proofs.Scanned.{each_here, each_rest, lasts_rest}
use Rattle.adr_index.proofs.tops.greatest_of_chunks.Goals as goal

pub loop-chunk-preserved : goal.loop-chunk-preserved
loop-chunk-preserved c =
    let chunk = each_here c.args.chunks.now c.loop-chunk.chunk-index c.chunk-item.result c.loop-chunk-test.true c.chunk-item.is IsChunk c.loop-chunk.invariant.chunks in
    record {
      after = λ t. rw c.later-greatest.ensures (lasts_rest c.args.chunks.now c.loop-chunk.chunk-index c.chunk-item.result c.loop-chunk-test.true c.chunk-item.is t c.loop-chunk.greatest _ (c.loop-chunk.invariant.after t) (chunk.end t));
      chunks = each_rest c.args.chunks.now c.loop-chunk.chunk-index c.chunk-item.result c.loop-chunk-test.true c.chunk-item.is IsChunk c.loop-chunk.invariant.chunks;
    }
