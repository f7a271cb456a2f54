use Rattle.std.proofs.Common.{rules}
use Rattle.adr_index.proofs.index.write.Goals as goal

pub returns : goal.returns
returns c = record { levels = c.digits-levels.result; enough = search rules; tree = c.rebuild_chunks.ensures.tree }

pub rebuild_chunks-requires-clause-rest : goal.rebuild_chunks-requires-clause-rest
rebuild_chunks-requires-clause-rest c = c.requires.tops c.digits-levels.result
