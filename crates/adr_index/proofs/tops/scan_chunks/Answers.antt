use Rattle.std.proofs.Common.{rules, ◌≡◌, ◌++◌, true, false, List, sym, ◌∙◌, ap, arith}
use Rattle.adr_model.specs.declared.entry.Entry.{Entry}
use Rattle.adr_index.specs.Chunks.{listed, IsChunk}
use Rattle.adr_index.specs.Query.{any_late, wanted_of}
use Rattle.adr_index.proofs.Scanned.{cost_rest, each_rest, found_here, found_rest, late_rest_of, order_here, order_rest}
use Rattle.adr_index.proofs.tops.scan_chunks.Goals as goal

pub search-requires-clause-order : goal.search-requires-clause-order
search-requires-clause-order g c = order_here c.args.chunks.now c.loop-chunk.chunk-index c.chunk-item.result c.loop-chunk-test.true c.chunk-item.is c.args.asked.now.query c.loop-chunk.invariant.order

pub returns-then-branch-clause-found : goal.returns-then-branch-clause-found
returns-then-branch-clause-found g c =
    let late : any_late (listed c.chunk-item.result) c.args.asked.now.query ≡ true = search rules in
    let same = found_here c.args.chunks.now c.loop-chunk.chunk-index c.chunk-item.result c.loop-chunk-test.true c.chunk-item.is c.args.asked.now.query c.loop-chunk.invariant.order late in
    c.in_ok-search.ensures.found ∙ (ap (λ (xs : List Entry). c.loop-chunk.found.items ++ wanted_of (g.W.Wanted.is_wanted c.args.asked.now.wanted.now) xs) (sym same) ∙ c.loop-chunk.invariant.found)

pub loop-chunk-preserved : goal.loop-chunk-preserved
loop-chunk-preserved g c =
    let early : any_late (listed c.chunk-item.result) c.args.asked.now.query ≡ false = search rules in
    let cost = cost_rest c.args.chunks.now c.loop-chunk.chunk-index c.chunk-item.result c.loop-chunk-test.true c.chunk-item.is c.args.asked.now.query c.args.depth early in
    record {
      found = found_rest c.args.chunks.now c.loop-chunk.chunk-index c.chunk-item.result c.loop-chunk-test.true c.chunk-item.is c.args.asked.now.query (g.W.Wanted.is_wanted c.args.asked.now.wanted.now) c.loop-chunk.found.items c.search.new.found.items _ c.loop-chunk.invariant.found c.in_ok-search.ensures.found;
      late = late_rest_of c.args.chunks.now c.loop-chunk.chunk-index c.chunk-item.result c.loop-chunk-test.true c.chunk-item.is c.args.asked.now.query _ c.loop-chunk.invariant.late early;
      order = order_rest c.args.chunks.now c.loop-chunk.chunk-index c.chunk-item.result c.loop-chunk-test.true c.chunk-item.is c.args.asked.now.query c.loop-chunk.invariant.order;
      chunks = each_rest c.args.chunks.now c.loop-chunk.chunk-index c.chunk-item.result c.loop-chunk-test.true c.chunk-item.is IsChunk c.loop-chunk.invariant.chunks;
      depth = each_rest c.args.chunks.now c.loop-chunk.chunk-index c.chunk-item.result c.loop-chunk-test.true c.chunk-item.is _ c.loop-chunk.invariant.depth;
      meter = omega (arith, cost, c.loop-chunk.invariant.meter, c.search.ensures.looks);
    }
