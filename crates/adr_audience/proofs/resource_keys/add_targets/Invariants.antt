use Rattle.std.proofs.Common.{◌≡◌, ◌++◌, take}
use Rattle.adr_audience.specs.Offers.{keys_of}
use Rattle.adr_audience.proofs.resource_keys.add_targets.Given as goal

abbrev pub invariant-loop-target : goal.invariant-loop-target
invariant-loop-target l = l.keys.items ≡ l.fn.keys.items ++ keys_of (take l.target-index l.targets)
