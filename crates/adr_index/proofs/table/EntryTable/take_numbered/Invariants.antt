use Rattle.std.proofs.Common.{◌≡◌, ◌+◌, ◌||◌, ◌≤◌, length}
use Rattle.std.specs.List.{list_any}
use Rattle.adr_index.specs.Chunks.{all_listed}
use Rattle.adr_index.specs.Index.{is_entry, without}
use Rattle.adr_index.specs.Tables.{IsTable}
use Rattle.adr_index.proofs.table.EntryTable.take_numbered.Given as goal

abbrev pub invariant-loop-entry : goal.invariant-loop-entry
invariant-loop-entry l = record {
  table : IsTable l.self;
  entries : without l.written l.place (all_listed l.self.chunks.items) ≡ without l.written l.place (all_listed l.fn.self.chunks.items);
  answer : (l.is_found || list_any (is_entry l.written l.place) (all_listed l.self.chunks.items)) ≡ list_any (is_entry l.written l.place) (all_listed l.fn.self.chunks.items);
  spare : l.fn.self.spare ≤ l.self.spare;
  sum : length l.self.chunks.items + length l.self.pool.items ≤ length l.fn.self.chunks.items + length l.fn.self.pool.items;
}

abbrev pub decreases-loop-entry : goal.decreases-loop-entry
decreases-loop-entry l = length (all_listed l.self.chunks.items)
