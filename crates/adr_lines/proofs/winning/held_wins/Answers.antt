use Rattle.adr_lines.proofs.Right.{held_wins}
use Rattle.adr_lines.proofs.winning.held_wins.Goals as goal

pub returns : goal.returns
returns c = held_wins
