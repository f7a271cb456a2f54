use Rattle.std.proofs.Common.{◌+◌, take, drop}
use Rattle.adr_index.specs.Chunks.{all_listed, listed}
use Rattle.adr_index.proofs.Found.{found_around}
use Rattle.adr_index.proofs.Placed.{around}
use Rattle.adr_index.proofs.table.find.Goals as goal

pub returns-in-Some-clause-some : goal.returns-in-Some-clause-some
returns-in-Some-clause-some c =
    let inside = rw c.deref.ensures.value at c.in-Some.ensures.some in
    rw (around c.args.chunks.now c.loop-chunk.chunk-index c.chunk-item.result c.loop-chunk-test.true c.chunk-item.is)
    (found_around c.args.written c.args.place c.in-Some.entry (all_listed (take c.loop-chunk.chunk-index c.args.chunks.now)) (listed c.chunk-item.result) (all_listed (drop (c.loop-chunk.chunk-index + 1) c.args.chunks.now)) inside)
