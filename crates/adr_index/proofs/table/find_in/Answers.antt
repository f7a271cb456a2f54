use Rattle.std.proofs.Common.{rules, ◌≡◌, true, sym, ◌∙◌}
use Rattle.adr_index.proofs.Found.{found_at}
use Rattle.adr_index.proofs.table.find_in.Goals as goal

pub returns-then-is_entry-clause-some : goal.returns-then-is_entry-clause-some
returns-then-is_entry-clause-some c =
    let named : c.is_entry.result ≡ true = search rules in
    found_at c.args.written c.args.place c.args.entries.now c.loop-entry.entry-index c.entry-item.result c.loop-entry-test.true c.entry-item.is (sym c.is_entry.ensures ∙ named)
