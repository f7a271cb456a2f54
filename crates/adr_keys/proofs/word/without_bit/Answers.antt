use Rattle.adr_keys.proofs.Bits.{bit-clear}
use Rattle.adr_keys.proofs.word.without_bit.Goals as goal

pub returns : goal.returns
returns c = bit-clear c.args.word c.args.k c.requires
