use Rattle.std.proofs.Common.{List, arith, subst, sym}
use Rattle.adr_board.specs.Boards.{Board, View}
use Rattle.adr_board.specs.Replay.{IsStep}
use Rattle.adr_board.specs.declared.run_steps.Step.TheVariants.{Publish}
use Rattle.adr_board.specs.declared.run_steps.Shown.TheVariants.{Published}
use Rattle.adr_board.proofs.Taken.{publicized}
use Rattle.adr_board.proofs.run.publish.Goals as goal

pub returns-in-Ok-clause-step : goal.returns-in-Ok-clause-step
returns-in-Ok-clause-step g c =
    let b = c.args.editor.now in
    let p = c.in-Ok.published in
    let made = c.in-Ok.ensures in
    subst (λ (x : Board). (views : List View) → IsStep b views Publish (Published p) x views) (sym made.board) (publicized b p made.number made.version made.most (omega (arith, c.last-last.ensures.last.numbered)))
