use Rattle.adr_model.proofs.Counted.{entries_are_counted, types_are_counted}
use Rattle.adr_model.proofs.laws.entries_are_counted.Goals as goal

pub returns-clause-types : goal.returns-clause-types
returns-clause-types c = types_are_counted

pub returns-clause-entries : goal.returns-clause-entries
returns-clause-entries c = entries_are_counted
