use Rattle.std.proofs.Common.{◌≡◌, ◌||◌, drop, ℤ}
use Rattle.adr_index.specs.Chunks.{all_listed, AreChunks}
use Rattle.adr_index.specs.Tree.{any_lasts, comes_after}
use Rattle.adr_index.proofs.tops.greatest_of_chunks.Given as goal

abbrev pub invariant-loop-chunk : goal.invariant-loop-chunk
invariant-loop-chunk l = record {
  after : (t : ℤ) → (comes_after l.greatest t || any_lasts (all_listed (drop l.chunk-index l.chunks)) t) ≡ any_lasts (all_listed l.chunks) t;
  chunks : AreChunks (drop l.chunk-index l.chunks);
}
