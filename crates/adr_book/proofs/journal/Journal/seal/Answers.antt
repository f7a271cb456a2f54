use Rattle.std.proofs.Common.{refl}
use Rattle.adr_book.proofs.Refused.{on_err}
use Rattle.adr_book.proofs.journal.Journal.seal.Goals as goal

pub returns-in_err-closed-clause-still_open : goal.returns-in_err-closed-clause-still_open
returns-in_err-closed-clause-still_open c = on_err _ refl
