use Rattle.std.proofs.Common.{◌∙◌}
use Rattle.std.proofs.lemmas.Result.{on_ok_weaker}
use Rattle.adr_timeline.proofs.Chunks.{lengthened}
use Rattle.adr_timeline.proofs.line.Line.lengthen.Goals as goal

pub returns : goal.returns
returns c = on_ok_weaker c.join.result
    (λ grown. lengthened c.reopen.new.chunks.items c.args.self.now c.reopen.new.unsealed.items c.join.new.segments.items c.args.piece.now c.requires
    (c.in_ok-reopen.ensures.same ∙ c.self.view_is) (rw c.self.view_is at c.in_ok-reopen.ensures.opened) grown)
    c.join.ensures
