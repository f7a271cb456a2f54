use Rattle.adr_keys.proofs.Bits.{bit-and}
use Rattle.adr_keys.proofs.word.both.Goals as goal

pub returns : goal.returns
returns c = bit-and c.args.a c.args.b
