use Rattle.std.proofs.Common.{◌≡◌, ◌∙◌, ◌++◌, ◌∷◌, [], Result, Ok, Err, OnOk, ap}
use Rattle.adr_model.specs.Edits.{after_from}
use Rattle.adr_book.specs.Ledger.{closed_edits}
use Rattle.adr_book.proofs.Joined.{all_closed}
use Rattle.adr_book.proofs.book.Book.seal.Goals as goal

on_ok : {T E P Q : Type 0} (r : Result T E) → (P → Q) → OnOk r P → OnOk r Q
on_ok (Ok v) f h = f h
on_ok (Err e) f h = h

pub returns-clause-sealed : goal.returns-clause-sealed
returns-clause-sealed c =
    let closed = c.self.inside.journal.closed in
    let pending = c.self.inside.journal.pending in
    let leads = λ (e : c.seal.new.self.closed ≡ closed ++ pending ∷ []).
    ap (λ batches. after_from c.self.inside.base (closed_edits batches)) e ∙ ap (after_from c.self.inside.base) (all_closed closed pending) ∙ c.self.invariant.leads in
    on_ok c.seal.result leads c.seal.ensures.closed
