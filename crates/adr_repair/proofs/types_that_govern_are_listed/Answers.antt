use Rattle.adr_repair.proofs.Types.{types_that_govern_are_listed}
use Rattle.adr_repair.proofs.types_that_govern_are_listed.Goals as goal

pub returns : goal.returns
returns c = types_that_govern_are_listed
