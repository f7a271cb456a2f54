use Rattle.adr_keys.proofs.index.reserve_row.Goals as goal

pub returns-in-Some-clause-ready : goal.returns-in-Some-clause-ready
returns-in-Some-clause-ready c = rw c.in-Some.is c.reserve_all.ensures.ok
