use Rattle.adr_refusal.proofs.Judged.{least_is_least, none_is_none}
use Rattle.adr_refusal.proofs.judging.fault_laws.Goals as goal

pub returns-clause-least : goal.returns-clause-least
returns-clause-least c = least_is_least

pub returns-clause-none : goal.returns-clause-none
returns-clause-none c = none_is_none
