use Rattle.std.proofs.Common.{rules, arith}
use Rattle.adr_index.specs.Chunks.{listed}
use Rattle.adr_index.proofs.Mended.{all_but}
use Rattle.adr_index.proofs.index.refresh.Goals as goal

pub returns : goal.returns
returns c = record { levels = c.digits-levels.result; enough = search rules; tree = c.rebuild_chunks.ensures.tree }

pub rebuild_chunks-requires-clause-rest : goal.rebuild_chunks-requires-clause-rest
rebuild_chunks-requires-clause-rest c = all_but listed 6 c.digits-levels.result 0 _ c.args.chunks.now c.args.tops.now (omega arith) (omega arith)
