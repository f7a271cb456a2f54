use Rattle.std.proofs.Common.{inl, inr, arith}
use Rattle.std.proofs.lemmas.Bool.{cases_order}
use Rattle.adr_index.proofs.table.chunks_for.Goals as goal

pub returns-clause-sure : goal.returns-clause-sure
returns-clause-sure c = elim (cases_order c.min.result c.args.more) [
  | inl same ↦ inl same
  | inr other ↦ inr (omega arith)
]
