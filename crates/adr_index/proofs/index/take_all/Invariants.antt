use Rattle.std.proofs.Common.{◌≡◌, ◌+◌, ◌≤◌, length}
use Rattle.adr_index.specs.Chunks.{all_listed}
use Rattle.adr_index.specs.Index.{others_all}
use Rattle.adr_index.specs.Tables.{HasTopsBut, IsTable}
use Rattle.adr_index.proofs.index.take_all.Given as goal

abbrev pub invariant-loop-rest : goal.invariant-loop-rest
invariant-loop-rest l = record {
  table : IsTable l.table;
  entries : others_all l.rest (all_listed l.table.chunks.items) ≡ others_all l.old (all_listed l.fn.table.chunks.items);
  spare : l.fn.table.spare ≤ l.table.spare;
  nodes : length l.tops ≡ length l.fn.tops;
  sum : length l.table.chunks.items + length l.table.pool.items ≤ length l.fn.table.chunks.items + length l.fn.table.pool.items;
  tops : HasTopsBut l.stretch.from l.stretch.to l.table.chunks.items l.tops;
}

abbrev pub decreases-loop-rest : goal.decreases-loop-rest
decreases-loop-rest l = length l.rest
