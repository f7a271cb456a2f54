use Rattle.std.proofs.Common.{arith}
use Rattle.adr_board.proofs.Prefixes.{prefix_length}
use Rattle.adr_board.proofs.run.inform.Goals as goal

pub returns-clause-told : goal.returns-clause-told
returns-clause-told g c = grind (arith, prefix_length)
