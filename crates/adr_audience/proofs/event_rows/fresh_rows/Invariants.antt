use Rattle.std.proofs.Common.{◌≡◌, map, take}
use Rattle.adr_audience.specs.Asks.{fresh_asks}
use Rattle.adr_audience.proofs.event_rows.fresh_rows.Given as goal

-- the rows so far are fresh
abbrev pub invariant-loop-place : goal.invariant-loop-place
invariant-loop-place l = l.rows.items ≡ map (λ w. fresh_asks l.program w.event) (take l.place l.store.events)
