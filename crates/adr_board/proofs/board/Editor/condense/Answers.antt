use Rattle.std.proofs.Common.{◌≡◌, ap, sym, subst, IfOk, OnOk}
use Rattle.left_right.specs.Sides.{view as known}
use Rattle.adr_model.specs.Book.{Book}
use Rattle.adr_book.specs.Ledger.{Ledger}
use Rattle.adr_board.proofs.Lasts.{last_is}
use Rattle.adr_board.proofs.Publishers.{still_shown}
use Rattle.adr_board.proofs.board.Editor.condense.Goals as goal

pub invariant_of-self : goal.invariant_of-self
invariant_of-self g c = still_shown _ _ _ _ _ _ _ _ _ c.condense.ensures.tie c.condense.ensures.last c.self.invariant

pub returns-clause-base : goal.returns-clause-base
returns-clause-base g c =
    let last = last_is (known c.self.inside.writer.desk.place) _ _ c.self.invariant.last in
    rw (← c.self.view_is) (subst (λ (b : Book). OnOk c.condense.result (c.condense.new.self.book.base ≡ b)) (ap (λ (p : Ledger). p.objects) (sym last)) c.condense.ensures.base)

pub returns-clause-version : goal.returns-clause-version
returns-clause-version g c =
    let last = last_is (known c.self.inside.writer.desk.place) _ _ c.self.invariant.last in
    rw (← c.self.view_is) (subst (λ (b : Book). IfOk c.condense.result (λ v. v ≡ b.version)) (ap (λ (p : Ledger). p.objects) (sym last)) c.condense.ensures.version)
