use Rattle.std.proofs.Common.{rules, ◌≡◌}
use Rattle.std.specs.List.{insert}
use Rattle.adr_index.proofs.ByEnd.{others_inserted}
use Rattle.adr_index.proofs.chunk.insert_one.Goals as goal

pub returns-clause-others : goal.returns-clause-others
returns-clause-others c =
    let put : c.insert.new.self.items ≡ insert c.args.entries.now.items c.place_of-place.result c.args.entry.now = search rules in
    rw put (others_inserted c.args.entries.now.items c.place_of-place.result c.args.entry.now (rw c.deref.ensures.value at c.place_of-place.ensures.within))
