use Rattle.std.proofs.Common.{rules}
use Rattle.adr_read.proofs.skip.pass_decimal.Goals as goal

pub returns : goal.returns
returns c = search rules
