use Rattle.std.proofs.Common.{◌≡◌, map, take}
use Rattle.adr_audience.specs.Rows.{fresh_row}
use Rattle.adr_audience.proofs.resource_rows.fresh_rows.Given as goal

-- the rows so far are fresh
abbrev pub invariant-loop-place : goal.invariant-loop-place
invariant-loop-place l = l.rows.items ≡ map (fresh_row l.ven) (take l.place l.store.resources)
