use Rattle.adr_embed.proofs.Answered.{lines_are_replied}
use Rattle.adr_embed.proofs.laws.script_laws.Goals as goal

pub returns-clause-lines : goal.returns-clause-lines
returns-clause-lines c = lines_are_replied c.kept_laws.ensures.lines
