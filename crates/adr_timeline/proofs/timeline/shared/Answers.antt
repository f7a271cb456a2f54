use Rattle.std.proofs.Common.{◌++◌, [], ◌∷◌, List, ap, refl, ◌∙◌}
use Rattle.adr_model.specs.declared.timeline.Segment.{Segment}
use Rattle.adr_timeline.proofs.Each.{all_made, one_made}
use Rattle.adr_timeline.proofs.timeline.shared.Goals as goal

pub loop-chunk-preserved : goal.loop-chunk-preserved
loop-chunk-preserved c =
    one_made (λ (chunks : List (List Segment)). chunks) c.args.chunks.now c.loop-chunk.chunk-index c.loop-chunk.copies.items _ c.loop-chunk.invariant
    c.chunk-item.result (c.chunk-item.result ∷ []) c.push.new.self.items c.loop-chunk-test.true c.chunk-item.is refl
    (c.in_ok-push.ensures.items ∙ ap (λ (chunk : List Segment). c.loop-chunk.copies.items ++ chunk ∷ []) c.in_ok-share.ensures)

pub returns : goal.returns
returns c = all_made (λ (chunks : List (List Segment)). chunks) c.args.chunks.now c.loop-chunk.chunk-index c.loop-chunk.copies.items _ c.loop-chunk.invariant c.loop-chunk-test.false refl
