use Rattle.adr_keys.proofs.Bits.{bit-up}
use Rattle.adr_keys.proofs.word.moved_up.Goals as goal

pub returns : goal.returns
returns c = λ i h. bit-up c.args.word c.args.by i h
