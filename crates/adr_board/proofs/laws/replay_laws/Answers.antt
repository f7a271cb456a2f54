use Rattle.adr_board.proofs.Replayed.{publications_have_all_edits}
use Rattle.adr_board.proofs.laws.replay_laws.Goals as goal

pub returns-clause-publications : goal.returns-clause-publications
returns-clause-publications c = publications_have_all_edits
