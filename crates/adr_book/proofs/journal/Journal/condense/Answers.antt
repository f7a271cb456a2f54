use Rattle.std.proofs.Common.{ap}
use Rattle.adr_book.proofs.journal.Journal.condense.Goals as goal

pub returns-clause-pending : goal.returns-clause-pending
returns-clause-pending c = ap (λ b. b.pending) c.self.view_is
