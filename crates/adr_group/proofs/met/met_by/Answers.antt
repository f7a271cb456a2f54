use Rattle.std.proofs.Common.{rules, inl, inr, length}
use Rattle.adr_group.proofs.Enough.{twice}
use Rattle.adr_group.proofs.met.met_by.Goals as goal
use Rattle.adr_group.proofs.met.met_by.Goals.{then-len-saturating_mul-via-then-len-saturating_mul, then-len-saturating_mul-via-else-len-saturating_mul+in_ok-may_compare+then-branch}

pub returns-then-len-saturating_mul-clause-met : goal.returns-then-len-saturating_mul-clause-met
returns-then-len-saturating_mul-clause-met g c = record {
  run = search rules;
  in_turn = c.in_ok-shown.ensures.in_turn;
  shows = λ t h. search rules;
  few = elim c.then-len-saturating_mul.branch [
    | then-len-saturating_mul-via-then-len-saturating_mul w ↦ inl (twice (length c.in_ok-shown.shown.items) (length c.args.entries.now) c.saturating_mul.result 18446744073709551615 (search rules) (search rules))
    | then-len-saturating_mul-via-else-len-saturating_mul+in_ok-may_compare+then-branch w ↦ inr (rw w.deref.ensures.value at (w.in_ok-may_compare.ensures.may w.if-branch.true))
  ];
}
