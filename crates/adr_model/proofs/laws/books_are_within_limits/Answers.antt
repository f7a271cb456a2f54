use Rattle.adr_model.proofs.Within.{edits_keep_limits, books_are_within}
use Rattle.adr_model.proofs.laws.books_are_within_limits.Goals as goal

pub returns-clause-any : goal.returns-clause-any
returns-clause-any c = edits_keep_limits

pub returns-clause-after : goal.returns-clause-after
returns-clause-after c = books_are_within
