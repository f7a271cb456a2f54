use Rattle.std.proofs.Common.{arith}
use Rattle.adr_timeline.proofs.Listed.{count_to}
use Rattle.adr_timeline.proofs.list.count_in_turn.Goals as goal

pub returns-in-At : goal.returns-in-At
returns-in-At c = omega (arith, rw c.in-At.is at (count_to c.args.entries.now c.in-Some.last.now c.requires c.in-Some.ensures.value))

pub returns-in-Endless : goal.returns-in-Endless
returns-in-Endless c = omega (arith, rw c.in-Endless.is at (count_to c.args.entries.now c.in-Some.last.now c.requires c.in-Some.ensures.value))
