use Rattle.adr_index.proofs.Fresh.{none_without}
use Rattle.adr_tests.proofs.index.put.Goals as goal

pub insert-requires : goal.insert-requires
insert-requires c = rw c.remove.ensures.entries (none_without c.args.entry.rank.written c.args.entry.rank.place c.args.index.now.entries)
