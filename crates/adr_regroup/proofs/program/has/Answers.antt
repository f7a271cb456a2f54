use Rattle.std.proofs.Common.{◌∙◌}
use Rattle.adr_group.proofs.Numbers.{search_is}
use Rattle.adr_regroup.proofs.program.has.Goals as goal

pub returns : goal.returns
returns c = c.is_ok.ensures.value ∙ search_is c.args.places.now c.args.place c.binary_search.result c.requires c.binary_search.ensures.position
