use Rattle.std.proofs.Common.{◌≡◌, ◌+◌, ◌∙◌, length, subst}
use Rattle.adr_book.specs.Ledger.{journal_of}
use Rattle.adr_book.proofs.book.Book.version.Goals as goal

pub returns-clause-counted : goal.returns-clause-counted
returns-clause-counted c = c.version.ensures.value ∙ subst (λ b. c.self.inside.objects.version ≡ b.base.version + length (journal_of b)) c.self.view_is c.self.invariant.counted
