use Rattle.std.proofs.Common.{refl, ◌-◌, ◌*◌, ◌%◌, ◌^◌}
use Rattle.adr_keys.proofs.Bits.{bit-gap, bit-past}
use Rattle.adr_keys.proofs.word.without_gap.Goals as goal

pub returns : goal.returns
returns c = record {
  bits = bit-gap c.args.word c.args.at (1 * 2 ^ c.args.at % 2 ^ 64 - 1) c.requires refl;
  none_past = bit-past c.args.word c.ranges.word.fits;
}
