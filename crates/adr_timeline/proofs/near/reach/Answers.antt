use Rattle.adr_timeline.proofs.Within.{held_serves}
use Rattle.adr_timeline.proofs.near.reach.Goals as goal

pub returns : goal.returns
returns c = held_serves c.loop-next.span c.args.window.now c.loop-next.invariant
