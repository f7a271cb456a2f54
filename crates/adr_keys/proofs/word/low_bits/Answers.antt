use Rattle.adr_keys.proofs.Bits.{bit-low}
use Rattle.std.proofs.Common.{refl, arith}
use Rattle.adr_keys.proofs.word.low_bits.Goals as goal

pub returns-then-count-lt64 : goal.returns-then-count-lt64
returns-then-count-lt64 c = λ i h. bit-low c.args.word c.args.count _ (omega (arith, c.if-count-lt64.true)) refl i
