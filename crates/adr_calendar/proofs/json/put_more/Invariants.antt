use Rattle.std.proofs.Common.{◌≡◌, ◌++◌, take, codes}
use Rattle.std.specs.List.{flat_map}
use Rattle.adr_calendar.specs.Json.{json_value}
use Rattle.adr_calendar.proofs.json.put_more.Given as goal

-- the values so far stand there
abbrev pub invariant-loop-datum : goal.invariant-loop-datum
invariant-loop-datum l = l.out.items ≡ l.initial.out.items ++ flat_map (λ v. codes "," ++ json_value v) (take l.datum-index l.values)
