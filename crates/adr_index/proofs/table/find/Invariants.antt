use Rattle.std.proofs.Common.{◌≡◌, drop}
use Rattle.std.specs.List.{list_any}
use Rattle.adr_index.specs.Chunks.{all_listed}
use Rattle.adr_index.specs.Index.{is_entry}
use Rattle.adr_index.proofs.table.find.Given as goal

abbrev pub invariant-loop-chunk : goal.invariant-loop-chunk
invariant-loop-chunk l = list_any (is_entry l.written l.place) (all_listed (drop l.chunk-index l.chunks)) ≡ list_any (is_entry l.written l.place) (all_listed l.chunks)
