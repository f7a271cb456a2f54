use Rattle.std.proofs.Common.{rules}
use Rattle.adr_index.proofs.Grown.{digits_below}
use Rattle.adr_index.proofs.tree.digits.Goals as goal

pub returns-clause-below : goal.returns-clause-below
returns-clause-below c = digits_below c.args.number (search rules)
