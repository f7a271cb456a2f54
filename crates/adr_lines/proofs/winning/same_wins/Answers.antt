use Rattle.adr_lines.proofs.Right.{same_wins}
use Rattle.adr_lines.proofs.winning.same_wins.Goals as goal

pub returns : goal.returns
returns c = same_wins
