use Rattle.std.proofs.Common.{rules}
use Rattle.adr_lines.proofs.Held.{none_held}
use Rattle.adr_lines.proofs.indexes.Indexes.new.Goals as goal

pub returns-clause-index : goal.returns-clause-index
returns-clause-index c tie = none_held tie _ (λ k. search rules)
