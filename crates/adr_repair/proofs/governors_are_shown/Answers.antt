use Rattle.adr_repair.proofs.Shown.{governors_are_shown}
use Rattle.adr_repair.proofs.governors_are_shown.Goals as goal

pub returns : goal.returns
returns c = governors_are_shown
