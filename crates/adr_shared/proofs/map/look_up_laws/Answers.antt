use Rattle.adr_shared.proofs.LookUps.{put_is_found, taken_is_gone}
use Rattle.adr_shared.proofs.map.look_up_laws.Goals as goal

pub returns-clause-put : goal.returns-clause-put
returns-clause-put g c = put_is_found

pub returns-clause-without : goal.returns-clause-without
returns-clause-without g c = taken_is_gone
