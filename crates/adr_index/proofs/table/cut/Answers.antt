use Rattle.std.proofs.Common.{List, [], ◌∷◌, ◌++◌, ◌≡◌, ◌∙◌}
use Rattle.std.proofs.lemmas.List.{append-nil, append_assoc, take-append-drop}
use Rattle.std.proofs.lemmas.List.Concat.{flat_map-append}
use Rattle.adr_model.specs.declared.entry.Entry.{Entry}
use Rattle.adr_index.specs.declared.chunk.EntryChunk.{EntryChunk}
use Rattle.adr_index.specs.Chunks.{all_listed, listed, AreChunks, IsChunk}
use Rattle.adr_index.proofs.table.cut.Goals as goal

chunks_and_one : (cs : List EntryChunk) (c : EntryChunk) → AreChunks cs → IsChunk c → AreChunks (cs ++ c ∷ [])
chunks_and_one [] c h k = (k, tt)
chunks_and_one (d ∷ cs) c h k = (h.0, chunks_and_one cs c h.1 k)

listed_and_one : (cs : List EntryChunk) (c : EntryChunk) (part rest : List Entry) → listed c ≡ part → all_listed (cs ++ c ∷ []) ++ rest ≡ all_listed cs ++ (part ++ rest)
listed_and_one cs c part rest h = rw (flat_map-append listed cs (c ∷ []), append-nil (listed c), h) (append_assoc (all_listed cs) part rest)

pub loop-left-preserved : goal.loop-left-preserved
loop-left-preserved c = record {
  chunks = rw c.in_ok-push.ensures.items (chunks_and_one c.loop-left.chunks.items c.in_ok-chunk.chunk c.loop-left.invariant.chunks c.in_ok-chunk.ensures.0);
  entries =
      rw c.in_ok-push.ensures.items (
      listed_and_one c.loop-left.chunks.items c.in_ok-chunk.chunk c.split_at.result.0.now c.split_at.result.1.now c.in_ok-chunk.ensures.1
      ∙ (rw (c.split_at.ensures.front, c.split_at.ensures.back, take-append-drop) c.loop-left.invariant.entries)
      );
}
