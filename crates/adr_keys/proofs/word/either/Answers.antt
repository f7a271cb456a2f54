use Rattle.adr_keys.proofs.Bits.{bit-or}
use Rattle.adr_keys.proofs.word.either.Goals as goal

pub returns : goal.returns
returns c = bit-or c.args.a c.args.b
