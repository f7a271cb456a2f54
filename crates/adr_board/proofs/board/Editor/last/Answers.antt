use Rattle.std.proofs.Common.{◌∙◌, ap, sym, subst}
use Rattle.left_right.specs.Sides.{view as known}
use Rattle.adr_board.proofs.Lasts.{last_is}
use Rattle.adr_board.specs.Rules.{IsLast}
use Rattle.adr_board.proofs.board.Editor.last.Goals as goal

pub returns-clause-book : goal.returns-clause-book
returns-clause-book g c =
    let last = last_is (known c.self.inside.writer.desk.place) _ _ c.self.invariant.last in
    rw (← c.self.view_is) (ap (λ s. s.book) c.last.ensures.last ∙ sym last)

pub returns-clause-last : goal.returns-clause-last
returns-clause-last g c = rw (← c.self.view_is) (subst (IsLast (known c.self.inside.writer.desk.place)) (sym c.last.ensures.last) c.self.invariant.last)
