use Rattle.std.proofs.Common.{refl}
use Rattle.adr_timeline.specs.Steps.{steps_in_turn, steps_of}
use Rattle.adr_timeline.proofs.Each.{all_made, one_made}
use Rattle.adr_timeline.proofs.step.add_run.Goals as goal

pub loop-entry-preserved : goal.loop-entry-preserved
loop-entry-preserved c =
    one_made steps_in_turn c.args.entries.now c.loop-entry.entry-index c.loop-entry.steps.items _ c.loop-entry.invariant
    c.entry-item.result (steps_of c.entry-item.result) c.add_steps_of.new.steps.items c.loop-entry-test.true c.entry-item.is refl c.in_ok-add_steps_of.ensures

pub returns : goal.returns
returns c = all_made steps_in_turn c.args.entries.now c.loop-entry.entry-index c.loop-entry.steps.items _ c.loop-entry.invariant c.loop-entry-test.false refl
