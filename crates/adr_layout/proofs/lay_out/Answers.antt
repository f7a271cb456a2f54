use Rattle.std.proofs.Common.{arith}
use Rattle.std.proofs.lemmas.Grind.{common_steps}
use Rattle.adr_model.specs.Layout.{layout}
use Rattle.adr_layout.proofs.lay_out.Goals as goal

pub returns-in_err-span : goal.returns-in_err-span
unfolding layout
returns-in_err-span c = grind (arith, common_steps)

pub returns : goal.returns
unfolding layout
returns c = grind (arith, common_steps)
