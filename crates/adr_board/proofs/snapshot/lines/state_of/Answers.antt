use Rattle.adr_board.proofs.snapshot.lines.state_of.Goals as goal

pub returns-in-Some-clause-changed : goal.returns-in-Some-clause-changed
returns-in-Some-clause-changed c = rw c.in-Some.is c.state-governor.ensures.until
