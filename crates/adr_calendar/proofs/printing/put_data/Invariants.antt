use Rattle.std.proofs.Common.{◌≡◌, ◌++◌, take, codes}
use Rattle.std.specs.List.{flat_map}
use Rattle.adr_model.specs.Answer.{datum_text}
use Rattle.adr_calendar.proofs.printing.put_data.Given as goal

-- the values so far stand there
abbrev pub invariant-loop-datum : goal.invariant-loop-datum
invariant-loop-datum l = l.out.items ≡ l.initial.out.items ++ flat_map (λ v. codes " " ++ datum_text v) (take l.datum-index l.values)
