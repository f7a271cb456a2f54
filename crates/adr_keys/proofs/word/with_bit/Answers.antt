use Rattle.adr_keys.proofs.Bits.{bit-set}
use Rattle.adr_keys.proofs.word.with_bit.Goals as goal

pub returns : goal.returns
returns c = bit-set c.args.word c.args.k c.requires
