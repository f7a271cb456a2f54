use Rattle.std.proofs.Common.{◌≡◌, ◌++◌, take}
use Rattle.std.specs.List.{flat_map}
use Rattle.adr_model.specs.Queries.{private_name}
use Rattle.adr_plain.proofs.types.add_event.Given as goal

-- the names of the intervals so far stand there
abbrev pub invariant-loop-interval : goal.invariant-loop-interval
invariant-loop-interval l = l.names.items ≡ l.initial.names.items ++ flat_map (λ i. flat_map (λ p. private_name p.kind) i.payloads) (take l.interval-index l.interval-items)
