use Rattle.std.proofs.Common.{◌∙◌, arith}
use Rattle.adr_timeline.specs.Steps.{steps_of}
use Rattle.adr_timeline.specs.Steps.{steps_in_turn}
use Rattle.adr_timeline.proofs.Merged.{rises_few}
use Rattle.adr_timeline.proofs.Runs.{one_few, one_ranked, run_ranked}
use Rattle.adr_timeline.proofs.Stepped.{right_part}
use Rattle.adr_timeline.proofs.step.rank_over_run.Goals as goal

pub merge-requires-clause-right : goal.merge-requires-clause-right
merge-requires-clause-right c = rw c.of.ensures (run_ranked c.args.run.now c.requires.in_turn).0

pub returns-in_err-merge-clause-compared : goal.returns-in_err-merge-clause-compared
returns-in_err-merge-clause-compared c =
    let left = right_part c.args.other.now.items c.add_steps_of.new.steps.items c.deref.result.now (steps_of c.args.one.now) c.split_at.result.1.now c.len-start.result c.in_ok-add_steps_of.ensures (c.len-start.ensures ∙ c.args.other.now.ok.0) c.deref.ensures.value c.split_at.ensures.back in
    omega (arith, c.merge.ensures.compared, one_few c.args.one.now c.args.run.now c.of.result.entries.now c.split_at.result.1.now left c.of.ensures c.requires.in_turn, rises_few c.split_at.result.1.now, rises_few (steps_in_turn c.of.result.entries.now))

pub returns-clause-ranked : goal.returns-clause-ranked
returns-clause-ranked c =
    let left = right_part c.args.other.now.items c.add_steps_of.new.steps.items c.deref.result.now (steps_of c.args.one.now) c.split_at.result.1.now c.len-start.result c.in_ok-add_steps_of.ensures (c.len-start.ensures ∙ c.args.other.now.ok.0) c.deref.ensures.value c.split_at.ensures.back in
    let merged = c.in_ok-merge.ensures.merged in
    (merged.0, merged.1, one_ranked c.args.one.now c.args.run.now merged.0 (run_ranked c.args.run.now c.requires.in_turn) (rw (left, c.of.ensures) at merged.2))

pub returns-clause-compared : goal.returns-clause-compared
returns-clause-compared c =
    let left = right_part c.args.other.now.items c.add_steps_of.new.steps.items c.deref.result.now (steps_of c.args.one.now) c.split_at.result.1.now c.len-start.result c.in_ok-add_steps_of.ensures (c.len-start.ensures ∙ c.args.other.now.ok.0) c.deref.ensures.value c.split_at.ensures.back in
    omega (arith, c.merge.ensures.compared, one_few c.args.one.now c.args.run.now c.of.result.entries.now c.split_at.result.1.now left c.of.ensures c.requires.in_turn, rises_few c.split_at.result.1.now, rises_few (steps_in_turn c.of.result.entries.now))
