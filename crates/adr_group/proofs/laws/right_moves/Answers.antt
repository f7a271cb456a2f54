use Rattle.adr_group.proofs.Rights.{right_moves}
use Rattle.adr_group.proofs.laws.right_moves.Goals as goal

pub returns : goal.returns
returns c = right_moves
