use Rattle.std.proofs.Common.{◌≡◌, ◌++◌, flat_map, option_to_list, take}
use Rattle.adr_audience.specs.Offers.{asked_key}
use Rattle.adr_audience.proofs.event_keys.add_asked_values.Given as goal

abbrev pub invariant-loop-value : goal.invariant-loop-value
invariant-loop-value l = l.keys.items ≡ l.fn.keys.items ++ flat_map (λ v. option_to_list (asked_key l.kind v)) (take l.value-index l.values)
