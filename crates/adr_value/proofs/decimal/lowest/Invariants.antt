use Rattle.std.proofs.Common.{◌≡◌, ◌*◌, ◌^◌, ◌<◌, ◌≤◌}
use Rattle.adr_value.proofs.decimal.lowest.Given as goal

abbrev pub invariant-loop-scale : goal.invariant-loop-scale
invariant-loop-scale l = record {
  value : l.number * 10 ^ l.places ≡ l.fn.number * 10 ^ l.scale;
  small : l.number < 10 ^ 18;
  places : l.scale ≤ l.places;
}

abbrev pub decreases-loop-scale : goal.decreases-loop-scale
decreases-loop-scale l = l.scale
