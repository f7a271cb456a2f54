use Rattle.adr_board.specs.Rules.{showing}
use Rattle.adr_board.proofs.Steps.{looks}
use Rattle.adr_board.proofs.Sights.{sighted}
use Rattle.adr_board.proofs.board.enter.Goals as goal

pub enter_as-requires : goal.enter_as-requires
enter_as-requires g c x = looks _ _ _ _ x

pub returns-in-Ok-clause-sight : goal.returns-in-Ok-clause-sight
returns-in-Ok-clause-sight g c =
    let saw = c.in-Ok.ensures.1 in
    rw (c.again.ensures, c.number-number.ensures, c.deref.ensures, c.get-shown.ensures, c.leave.ensures.1) (sighted _ _ _ (showing c.in-Ok.reading.part.value) saw.0 saw.2)
