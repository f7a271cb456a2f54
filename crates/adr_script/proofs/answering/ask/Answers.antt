use Rattle.std.proofs.Common.{inr}
use Rattle.adr_script.proofs.answering.ask.Goals as goal

pub returns-in-Err-NoMemory-clause-ok : goal.returns-in-Err-NoMemory-clause-ok
returns-in-Err-NoMemory-clause-ok g c = inr (c.put.ensures.items, c.in-Err-NoMemory.ensures.err)
