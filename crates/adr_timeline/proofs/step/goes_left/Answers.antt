use Rattle.std.proofs.Common.{rules}
use Rattle.adr_timeline.proofs.Merged.{first_left}
use Rattle.adr_timeline.proofs.step.goes_left.Goals as goal

pub returns-in-Some : goal.returns-in-Some
returns-in-Some g c = let first = first_left c.args.left.now (g.R.StepList.listed c.args.right) c.args.passed c.in-Some.step.now c.at.result c.in-Some.ensures.value c.at.ensures in search rules
