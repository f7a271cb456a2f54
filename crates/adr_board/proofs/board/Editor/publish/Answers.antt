use Rattle.std.proofs.Common.{◌≡◌, ◌∙◌, ap, sym, subst}
use Rattle.std.specs.Arc.{arc_value}
use Rattle.adr_model.specs.Edits.{after_from}
use Rattle.adr_book.specs.Ledger.{Ledger}
use Rattle.adr_board.specs.Published.{PublishedBook, last_batch}
use Rattle.adr_board.specs.Rules.{showing}
use Rattle.adr_board.proofs.Publishers.{goes_on, undone}
use Rattle.adr_board.proofs.board.Editor.publish.Goals as goal

pub attempt_to_show-requires-clause-leads : goal.attempt_to_show-requires-clause-leads
attempt_to_show-requires-clause-leads g c =
    let next = c.in_ok-prepared.prepared in
    let book_is : c.book.result.now ≡ next.book = c.book.ensures ∙ ap (λ s. s.book) (c.deref.ensures ∙ c.snapshot-snapshot.ensures) in
    let shown = (showing c.self.inside.writer.desk.shown.value).snapshot in
    let leads = subst (λ (s : PublishedBook). next.book.objects ≡ after_from s.book.objects (last_batch next.book.closed)) c.self.invariant.shown_is c.in_ok-prepared.ensures.leads in
    subst (λ (b : Ledger). b.objects ≡ after_from shown.book.objects (last_batch b.closed)) (sym book_is) leads

-- where readers were not shown it
pub invariant_of-self : goal.invariant_of-self
invariant_of-self g c =
    let tried = c.in_err-attempt_to_show.ensures in
    undone _ _ _ _ _ _ _ _ _ _ _ _ _ (ap (λ x. (showing x).snapshot) tried.unshown.0) tried.unshown.1 c.attempt_to_show.ensures.history tried.undone c.self.invariant

-- where they were
pub invariant_of-self-2 : goal.invariant_of-self-2
invariant_of-self-2 g c =
    let next = c.in_ok-prepared.prepared in
    let made = c.in_ok-prepared.ensures in
    let done = c.in_ok-attempt_to_show.ensures in
    let book_is : c.book.result.now ≡ next.book = c.book.ensures ∙ ap (λ s. s.book) (c.deref.ensures ∙ c.snapshot-snapshot.ensures) in
    let shown_is = done.shown ∙ (c.in_ok-shown.ensures.same ∙ c.snapshot-snapshot.ensures) in
    rw (c.go_on_with.ensures) (goes_on _ _ _ _ _ next _ _ _ _ _ _ _ _ c.book.result.now made.next made.leads shown_is book_is done.place c.attempt_to_show.ensures.history done.noted c.self.inside.diary.counted c.self.invariant)
