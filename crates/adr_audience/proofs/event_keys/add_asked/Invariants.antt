use Rattle.std.proofs.Common.{◌≡◌, ◌++◌, take}
use Rattle.adr_audience.specs.Asks.{asked_by}
use Rattle.adr_audience.proofs.event_keys.add_asked.Given as goal

abbrev pub invariant-loop-target : goal.invariant-loop-target
invariant-loop-target l = l.keys.items ≡ l.fn.keys.items ++ asked_by (take l.target-index l.targets)
