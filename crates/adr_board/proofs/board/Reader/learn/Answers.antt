use Rattle.std.proofs.Common.{rules}
use Rattle.adr_board.proofs.board.Reader.learn.Goals as goal

pub returns-clause-learnt : goal.returns-clause-learnt
returns-clause-learnt g c = search rules
