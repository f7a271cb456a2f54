use Rattle.std.proofs.Common.{◌≡◌, map, take}
use Rattle.adr_audience.specs.Asks.{asked_in}
use Rattle.adr_audience.proofs.event_rows.asks_of.Given as goal

-- the events so far have their rows
abbrev pub invariant-loop-place : goal.invariant-loop-place
invariant-loop-place l = l.rows ≡ map (λ w. asked_in l.store w.event) (take l.place l.store.events)
