use Rattle.std.proofs.Common.{rules}
use Rattle.adr_read.proofs.tokens.told.Goals as goal

pub returns-in-Number-2-clause-value : goal.returns-in-Number-2-clause-value
returns-in-Number-2-clause-value c = search rules
