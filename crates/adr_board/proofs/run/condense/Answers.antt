use Rattle.adr_board.proofs.Taken.{based}
use Rattle.adr_board.proofs.run.condense.Goals as goal

pub returns-clause-step : goal.returns-clause-step
returns-clause-step g c =
    let made = c.in_ok-version.ensures in
    let same = c.condense.ensures in
    based c.args.editor.now c.condense.new.self c.in_ok-version.version made.version made.base same.tie same.objects same.pending same.published
