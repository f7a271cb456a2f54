use Rattle.std.proofs.Common.{◌≡◌, ◌-◌, false, drop}
use Rattle.std.specs.List.{list_any}
use Rattle.adr_keys.specs.Blocks.{covers}
use Rattle.adr_keys.proofs.blocks.Blocks.find.Given as goal

-- none of the last blocks covers the place
abbrev pub invariant-loop-step : goal.invariant-loop-step
invariant-loop-step l = list_any (covers l.place) (drop (l.count - l.step) l.self-inside.blocks.items) ≡ false
