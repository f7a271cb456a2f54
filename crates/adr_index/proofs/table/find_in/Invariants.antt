use Rattle.std.proofs.Common.{◌≡◌, drop}
use Rattle.std.specs.List.{list_any}
use Rattle.adr_index.specs.Index.{is_entry}
use Rattle.adr_index.proofs.table.find_in.Given as goal

abbrev pub invariant-loop-entry : goal.invariant-loop-entry
invariant-loop-entry l = list_any (is_entry l.written l.place) (drop l.entry-index l.entries) ≡ list_any (is_entry l.written l.place) l.entries
