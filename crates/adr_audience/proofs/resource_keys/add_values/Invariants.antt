use Rattle.std.proofs.Common.{◌≡◌, ◌++◌, map, take}
use Rattle.adr_keys.specs.declared.key.Key.TheVariants.{Value}
use Rattle.adr_audience.proofs.resource_keys.add_values.Given as goal

abbrev pub invariant-loop-value : goal.invariant-loop-value
invariant-loop-value l = l.keys.items ≡ l.fn.keys.items ++ map (λ v. Value l.kind v) (take l.value-index l.values)
