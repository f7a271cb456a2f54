use Rattle.std.proofs.Common.{[], ◌∷◌, List, refl}
use Rattle.adr_model.specs.declared.timeline.Segment.{Segment}
use Rattle.adr_timeline.proofs.Each.{all_made, one_made}
use Rattle.adr_timeline.proofs.line.Line.add_each.Goals as goal

pub loop-piece-preserved : goal.loop-piece-preserved
loop-piece-preserved c =
    one_made (λ (pieces : List Segment). pieces) c.args.pieces.now c.loop-piece.piece-index c.loop-piece.self _ c.loop-piece.invariant
    c.piece-item.result (c.piece-item.result ∷ []) c.add.new.self c.loop-piece-test.true c.piece-item.is refl c.in_ok-add.ensures

pub returns : goal.returns
returns c = all_made (λ (pieces : List Segment). pieces) c.args.pieces.now c.loop-piece.piece-index c.loop-piece.self _ c.loop-piece.invariant c.loop-piece-test.false refl
