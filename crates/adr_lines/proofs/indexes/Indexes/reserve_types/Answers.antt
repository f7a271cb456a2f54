use Rattle.std.proofs.Common.{◌∙◌, arith}
use Rattle.adr_lines.proofs.Turns.{room_turn}
use Rattle.adr_lines.proofs.indexes.Indexes.reserve_types.Goals as goal

pub rest-preserved : goal.rest-preserved
rest-preserved c = record {
  entries = λ k. c.reserve_under.ensures.entries k ∙ c.rest.invariant.entries k;
  kept = λ k. let had = c.rest.invariant.kept k in let more = c.reserve_under.ensures.kept k in omega arith;
  room = λ k s.
      room_turn c.args.gone.now c.args.come.now c.rest.rest.now c.in-Some.more.now c.in-Some.group.now k c.rest.self c.reserve_under.new.self c.in-Some-wanted.count
      c.in-Some.ensures.cases.0 c.in-Some-wanted.ensures c.in_ok-reserve_under.ensures.room (c.reserve_under.ensures.kept k) (c.rest.invariant.room k s);
}
