use Rattle.std.proofs.Common.{◌<◌, ◌/◌, arith}
use Rattle.std.proofs.Math.Nat.{div-le_self, mod-lt}
use Rattle.std.proofs.lemmas.Fmt.{length-decimal-le}
use Rattle.adr_value.proofs.PowerLemmas.{pow-positive}
use Rattle.adr_calendar.proofs.printing.put_short.Goals as goal

pub nonzero_rem-size : goal.nonzero_rem-size
nonzero_rem-size c = omega (arith, pow-positive c.args.places, c.pow-power.ensures)

pub write_fraction-point-requires-clause-rest : goal.write_fraction-point-requires-clause-rest
write_fraction-point-requires-clause-rest c =
    let positive : 0 < c.pow-power.result = omega (arith, pow-positive c.args.places, c.pow-power.ensures) in
    omega (arith, c.pow-power.ensures, mod-lt c.args.size positive)

pub nonzero_div-size : goal.nonzero_div-size
nonzero_div-size c = omega (arith, pow-positive c.args.places, c.pow-power.ensures)

pub write_digits-start-requires : goal.write_digits-start-requires
write_digits-start-requires c =
    let whole = c.args.size / c.pow-power.result in
    let less = div-le_self c.args.size c.pow-power.result in
    let few = length-decimal-le 20 whole (omega arith) (omega (arith, less, c.ranges.size.fits)) (omega (arith, less, c.ranges.size.fits)) in (
      omega (arith, few, c.write_fraction-point.ensures.room),
      omega (arith, c.write_fraction-point.ensures.within, c.write_fraction-point.ensures.length),
    )
