use Rattle.std.proofs.Common.{sym, ◌∙◌}
use Rattle.adr_timeline.proofs.Within.{serves_inside}
use Rattle.adr_timeline.proofs.near.Near.serves.Goals as goal

pub returns-then-covers : goal.returns-then-covers
returns-then-covers c = λ yes. serves_inside c.args.self.now.span c.args.window.now (sym c.covers.ensures.test ∙ c.if-covers.true) (c.is_no_later.ensures yes)
