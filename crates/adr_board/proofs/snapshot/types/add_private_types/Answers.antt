use Rattle.adr_calendar.proofs.Walked.{walked_on}
use Rattle.adr_board.specs.Types.{private_if}
use Rattle.adr_board.proofs.snapshot.types.add_private_types.Goals as goal

pub loop-place-preserved : goal.loop-place-preserved
loop-place-preserved c test is =
    walked_on (λ k. private_if test k.0) _ _ _ c.args.group.now.lines c.loop-place.place (c.loop-place.invariant test is) (c.in_ok-add_line.ensures.ok test is)
