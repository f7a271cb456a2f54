use Rattle.std.proofs.Common.{◌≡◌, ◌++◌, drop, length}
use Rattle.adr_index.specs.Chunks.{all_listed, AreChunks}
use Rattle.adr_index.proofs.table.copy_chunks.Given as goal

abbrev pub invariant-loop-chunk : goal.invariant-loop-chunk
invariant-loop-chunk l = record {
  chunks : AreChunks l.copy.items;
  left : AreChunks (drop l.chunk-index l.chunks);
  entries : all_listed l.copy.items ++ all_listed (drop l.chunk-index l.chunks) ≡ all_listed l.chunks;
  length : length l.copy.items ≡ l.chunk-index;
}
