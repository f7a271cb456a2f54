use Rattle.std.proofs.Common.{◌-◌, [], slice_get, ap, sym, ◌∙◌}
use Rattle.std.specs.Prelude.{unwrap_or}
use Rattle.std.specs.Option.{option_copied}
use Rattle.adr_board.specs.Published.{last_batch, PublishedBook}
use Rattle.adr_book.specs.Ledger.{Ledger}
use Rattle.adr_board.proofs.Timelines.{batch_last}
use Rattle.adr_board.proofs.snapshot.Snapshot.batch.Goals as goal

pub returns-in-Some : goal.returns-in-Some
returns-in-Some c =
    let bs = c.closed-closed.result.now in
    c.edits.ensures
    ∙ sym
    (batch_last bs
    ∙ ap (λ o. unwrap_or o [])
    (sym (ap (λ n. slice_get bs n) (c.saturating_sub.ensures ∙ ap (λ n. n - 1) c.len.ensures)) ∙ sym c.at.ensures ∙ ap option_copied c.in-Some.is))
    ∙ ap last_batch (c.closed-closed.ensures ∙ c.journal-journal.ensures.closed ∙ ap (λ (b : Ledger). b.closed) c.book.ensures)
    ∙ ap (λ (v : PublishedBook). last_batch v.book.closed) c.self.view_is

-- with no closed batch the open one has no edits either
pub returns-in-None : goal.returns-in-None
returns-in-None c =
    let bs = c.closed-closed.result.now in
    c.pending.ensures
    ∙ c.journal-journal.ensures.pending
    ∙ ap (λ (b : Ledger). b.pending) c.book.ensures
    ∙ c.self.invariant.sealed
    ∙ sym
    (batch_last bs
    ∙ ap (λ o. unwrap_or o [])
    (sym (ap (λ n. slice_get bs n) (c.saturating_sub.ensures ∙ ap (λ n. n - 1) c.len.ensures)) ∙ sym c.at.ensures ∙ ap option_copied c.in-None.is))
    ∙ ap last_batch (c.closed-closed.ensures ∙ c.journal-journal.ensures.closed ∙ ap (λ (b : Ledger). b.closed) c.book.ensures)
    ∙ ap (λ (v : PublishedBook). last_batch v.book.closed) c.self.view_is
