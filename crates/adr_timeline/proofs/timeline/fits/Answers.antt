use Rattle.std.proofs.Common.{◌+◌, List, ◌∷◌, ◌∙◌, drop, length, ap, sym, arith}
use Rattle.std.proofs.lemmas.List.{drop_more, length-append}
use Rattle.adr_model.specs.declared.timeline.Segment.{Segment}
use Rattle.adr_timeline.specs.Chunks.{listed}
use Rattle.adr_timeline.proofs.timeline.fits.Goals as goal

pub loop-chunk-preserved : goal.loop-chunk-preserved
loop-chunk-preserved c =
    let chunks = c.args.chunks.now in
    let i = c.loop-chunk.chunk-index in
    let here = ap (λ (cs : List (List Segment)). length (listed cs)) (drop_more chunks i c.chunk-item.result c.loop-chunk-test.true ∙ ap (λ (s : List Segment). s ∷ drop (i + 1) chunks) (sym c.chunk-item.is)) in
    let parts = length-append c.chunk-item.result (listed (drop (i + 1) chunks)) in
    let same = ap length c.segments-count.ensures.segments in
    omega (arith, here, parts, same, c.loop-chunk.invariant)
