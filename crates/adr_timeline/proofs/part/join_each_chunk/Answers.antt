use Rattle.std.proofs.Common.{sym, ◌∙◌}
use Rattle.adr_timeline.proofs.Chunks.{late_turn, chunk_turn, first_canonical}
use Rattle.adr_timeline.proofs.part.join_each_chunk.Goals as goal

pub returns-then-starts_late : goal.returns-then-starts_late
returns-then-starts_late c = late_turn c.loop-chunk.chunks.now c.in-Some.rest.now c.in-Some.chunk.now c.loop-chunk.line _ c.args.from.now c.args.until.now c.in-Some.ensures.cases.0 c.loop-chunk.invariant.0 c.loop-chunk.invariant.1 c.segments.ensures.filled (rw c.segments.ensures.segments at (sym c.starts_late.ensures ∙ c.if-starts_late.true))

pub join_chunk-requires : goal.join_chunk-requires
join_chunk-requires c = first_canonical c.loop-chunk.chunks.now c.in-Some.rest.now c.in-Some.chunk.now c.in-Some.ensures.cases.0 c.loop-chunk.invariant.0

pub loop-chunk-preserved : goal.loop-chunk-preserved
loop-chunk-preserved c = chunk_turn c.loop-chunk.chunks.now c.in-Some.rest.now c.in-Some.chunk.now c.loop-chunk.line c.join_chunk.new.line _ c.args.from.now c.args.until.now c.in-Some.ensures.cases.0 c.loop-chunk.invariant.0 c.loop-chunk.invariant.1 c.in_ok-join_chunk.ensures
