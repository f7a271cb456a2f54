use Rattle.adr_index.proofs.Ordered.{ordered_listed}
use Rattle.adr_index.specs.Chunks.{all_listed}
use Rattle.adr_index.proofs.index.Index.len.Goals as goal

pub returns-clause-listed : goal.returns-clause-listed
returns-clause-listed c = rw (← c.self.view_is) (ordered_listed (all_listed c.self.inside.table.chunks.items) c.self.invariant.table.order)
