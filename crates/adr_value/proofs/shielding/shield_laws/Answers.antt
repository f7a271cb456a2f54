use Rattle.adr_value.proofs.BodyLemmas.{bodies_are_cut, pieces_are_shielded}
use Rattle.adr_value.proofs.OneCutLemmas.{cuts_are_one}
use Rattle.adr_value.proofs.shielding.shield_laws.Goals as goal

pub returns-clause-cut : goal.returns-clause-cut
returns-clause-cut c = bodies_are_cut

pub returns-clause-shielded : goal.returns-clause-shielded
returns-clause-shielded c = pieces_are_shielded

pub returns-clause-one : goal.returns-clause-one
returns-clause-one c = cuts_are_one
