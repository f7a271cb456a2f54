use Rattle.std.proofs.Common.{◌≡◌, ◌+◌, ◌*◌, ◌^◌, ◌≤◌, ◌++◌, drop, length}
use Rattle.std.specs.List.{AllByRecursion}
use Rattle.adr_index.specs.Chunks.{all_listed, listed, AreChunks}
use Rattle.adr_index.specs.Query.{any_late, hits, reached, wanted_of}
use Rattle.adr_index.specs.Tree.{IsByStart}
use Rattle.adr_index.proofs.tops.scan_chunks.Given as goal

abbrev pub invariant-loop-chunk : goal.invariant-loop-chunk
invariant-loop-chunk g l = record {
  found : l.found.items ++ wanted_of (g.W.Wanted.is_wanted l.asked.wanted.now) (hits (all_listed (drop l.chunk-index l.chunks)) l.asked.query) ≡ l.fn.found.items ++ wanted_of (g.W.Wanted.is_wanted l.asked.wanted.now) (hits (all_listed l.chunks) l.asked.query);
  late : any_late (all_listed (drop l.chunk-index l.chunks)) l.asked.query ≡ any_late (all_listed l.chunks) l.asked.query;
  order : IsByStart (all_listed (drop l.chunk-index l.chunks));
  chunks : AreChunks (drop l.chunk-index l.chunks);
  depth : AllByRecursion (λ c. 2 * length (listed c) ≤ 2 ^ l.depth) (drop l.chunk-index l.chunks);
  meter : l.meter + length (drop l.chunk-index l.chunks) + 2 * l.depth * reached (all_listed (drop l.chunk-index l.chunks)) l.asked.query ≤ l.fn.meter + length l.chunks + 2 * l.depth * reached (all_listed l.chunks) l.asked.query;
}
