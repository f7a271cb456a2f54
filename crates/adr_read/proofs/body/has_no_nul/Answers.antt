use Rattle.adr_read.proofs.Unshielded.{none_found}
use Rattle.adr_read.proofs.body.has_no_nul.Goals as goal

pub returns : goal.returns
returns c is = none_found c.args.body.now c.find.result c.is_none.result c.find.ensures c.is_none.ensures is
