use Rattle.std.proofs.Common.{◌≡◌, map, take}
use Rattle.adr_audience.specs.Rows.{offered_in}
use Rattle.adr_audience.proofs.resource_rows.offers_of.Given as goal

-- the resources so far have their rows
abbrev pub invariant-loop-place : goal.invariant-loop-place
invariant-loop-place l = l.rows ≡ map (offered_in l.store) (take l.place l.store.resources)
