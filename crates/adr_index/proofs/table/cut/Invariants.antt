use Rattle.std.proofs.Common.{◌≡◌, ◌++◌, length}
use Rattle.adr_index.specs.Chunks.{all_listed, AreChunks}
use Rattle.adr_index.proofs.table.cut.Given as goal

abbrev pub invariant-loop-left : goal.invariant-loop-left
invariant-loop-left l = record {
  chunks : AreChunks l.chunks.items;
  entries : all_listed l.chunks.items ++ l.left ≡ l.entries;
}

abbrev pub decreases-loop-left : goal.decreases-loop-left
decreases-loop-left l = length l.left
