use Rattle.adr_timeline.proofs.Laid.{chunks_more}
use Rattle.adr_timeline.proofs.overlay.add_chunks.Goals as goal

pub loop-chunk-preserved : goal.loop-chunk-preserved
loop-chunk-preserved g c = chunks_more (g.R.Ranks.rank c.args.ranks.now) c.args.chunks.now c.loop-chunk.chunk-index c.chunk-item.result c.loop-chunk.entries.items c.add_shown.new.entries.items _ c.loop-chunk-test.true c.chunk-item.is (rw (c.segments-segments.ensures.segments, c.reserve.ensures.items) at c.in_ok-add_shown.ensures) c.loop-chunk.invariant
