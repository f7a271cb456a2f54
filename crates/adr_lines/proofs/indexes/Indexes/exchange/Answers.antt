use Rattle.std.proofs.Common.{List, ◌∙◌, ap}
use Rattle.adr_model.specs.declared.entry.Entry.{Entry}
use Rattle.adr_index.specs.Index.{inserted_all}
use Rattle.adr_lines.specs.Grouped.{entries_under}
use Rattle.adr_lines.proofs.indexes.Indexes.exchange.Goals as goal

pub put_all-requires-clause-fresh : goal.put_all-requires-clause-fresh
put_all-requires-clause-fresh c k = rw (c.take_all.ensures.entries k) (c.requires.fresh k)

pub returns-clause-entries : goal.returns-clause-entries
returns-clause-entries c k = c.put_all.ensures.entries k ∙ ap (λ (es : List Entry). inserted_all (entries_under c.args.come.now k) es) (c.take_all.ensures.entries k)
