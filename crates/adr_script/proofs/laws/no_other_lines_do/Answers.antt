use Rattle.adr_script.proofs.Cutting.{only}
use Rattle.adr_script.proofs.laws.no_other_lines_do.Goals as goal

pub returns : goal.returns
returns c = only
