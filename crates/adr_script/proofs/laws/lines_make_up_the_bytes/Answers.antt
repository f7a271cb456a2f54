use Rattle.adr_script.proofs.Cutting.{cuts}
use Rattle.adr_script.proofs.laws.lines_make_up_the_bytes.Goals as goal

pub returns : goal.returns
returns c = cuts
