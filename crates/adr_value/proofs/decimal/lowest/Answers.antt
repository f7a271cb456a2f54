use Rattle.std.proofs.Common.{arith}
use Rattle.adr_value.proofs.ShortLemmas.{lower}
use Rattle.adr_value.proofs.decimal.lowest.Goals as goal

pub loop-scale-preserved : goal.loop-scale-preserved
loop-scale-preserved c = record {
  value = lower c.loop-scale.number c.args.number c.args.places c.loop-scale.scale c.if-number-eq0.true c.loop-scale-test.true c.loop-scale.invariant.value;
  small = omega (arith, c.loop-scale.invariant.small);
  places = omega (arith, c.loop-scale.invariant.places);
}
