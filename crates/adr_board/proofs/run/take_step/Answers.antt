use Rattle.adr_board.specs.declared.run_steps.Step.TheVariants.{Edit, Publish}
use Rattle.adr_board.proofs.Runs.{at_views}
use Rattle.adr_board.proofs.run.take_step.Goals as goal

pub returns-in-Edit-clause-step : goal.returns-in-Edit-clause-step
returns-in-Edit-clause-step g c = at_views c.apply.result c.args.editor.now c.apply.new.editor c.args.readers.now.items c.args.step (Edit c.in-Edit.edit) c.in-Edit.is c.apply.ensures.step

pub returns-in-Publish-clause-step : goal.returns-in-Publish-clause-step
returns-in-Publish-clause-step g c = at_views c.publish.result c.args.editor.now c.publish.new.editor c.args.readers.now.items c.args.step Publish c.in-Publish.is c.publish.ensures.step
