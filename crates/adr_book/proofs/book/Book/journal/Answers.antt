use Rattle.std.proofs.Common.{◌≡◌, subst}
use Rattle.adr_model.specs.Edits.{after_from}
use Rattle.adr_book.specs.Ledger.{journal_of}
use Rattle.adr_book.proofs.book.Book.journal.Goals as goal

pub returns-clause-leads : goal.returns-clause-leads
returns-clause-leads c = subst (λ b. after_from b.base (journal_of b) ≡ b.objects) c.self.view_is c.self.invariant.leads
