use Rattle.adr_index.proofs.Mended.{tops_but}
use Rattle.adr_index.proofs.index.write_far.Goals as goal

pub returns : goal.returns
returns c = tops_but c.none.result.from c.none.result.to c.args.chunks.now c.write.new.tops c.none.ensures c.write.ensures
