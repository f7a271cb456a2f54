use Rattle.adr_index.specs.Query.{hits}
use Rattle.adr_index.proofs.Searched.{all_wanted}
use Rattle.adr_index.proofs.index.Index.find_all.Goals as goal

pub returns-clause-found : goal.returns-clause-found
returns-clause-found c = rw (all_wanted (hits c.args.self.now.entries c.args.query)) at c.find_counted.ensures.found
