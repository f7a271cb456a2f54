use Rattle.std.proofs.Common.{arith}
use Rattle.adr_keys.proofs.Bits.{bit-over}
use Rattle.adr_keys.proofs.word.over_top.Goals as goal

pub returns : goal.returns
returns c = λ i h. bit-over c.args.word c.args.by i (omega (arith, c.if-by-eq0.false)) (omega (arith, c.requires)) (omega (arith, c.ranges.word.fits)) h
