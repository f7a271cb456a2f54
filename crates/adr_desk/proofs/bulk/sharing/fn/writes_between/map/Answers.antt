use Rattle.std.proofs.lemmas.Result.{MatchResult-from_both}
use Rattle.adr_desk.proofs.bulk.sharing.fn.writes_between.map.Goals as goal

pub returns : goal.returns
returns c = MatchResult-from_both c.writes_of.result _ _ c.writes_of.ensures.writes c.writes_of.ensures.refusal
