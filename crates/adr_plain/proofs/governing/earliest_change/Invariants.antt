use Rattle.std.proofs.Common.{◌≡◌, filter, take}
use Rattle.adr_model.specs.Answer.{is_change, earliest}
use Rattle.adr_model.specs.Governor.{winner_at}
use Rattle.adr_plain.proofs.governing.earliest_change.Given as goal

-- the earliest change among the bounds so far
abbrev pub invariant-loop-bound : goal.invariant-loop-bound
invariant-loop-bound l = record {
  known : l.now ≡ winner_at l.entries l.moment;
  found : l.end ≡ earliest (filter (is_change l.entries l.moment) (take l.bound-index l.bounds));
}
