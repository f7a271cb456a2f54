use Rattle.std.proofs.Common.{ℕ, ◌≡◌, ◌∙◌, subst}
use Rattle.adr_board.specs.History.{HasLast}
use Rattle.adr_board.proofs.board.Editor.tell.Goals as goal

pub invariant_of-result : goal.invariant_of-result
invariant_of-result g c =
    let kept = c.self.invariant in
    let t = c.self.inside in
    rw (c.again.ensures) (kept.history_is, subst (λ (n : ℕ). HasLast t.diary.page.log n t.attempt) (cc) kept.numbered)
