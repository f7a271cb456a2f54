use Rattle.std.proofs.Common.{◌≡◌, ◌++◌, take}
use Rattle.std.specs.List.{flat_map}
use Rattle.adr_model.specs.Queries.{private_name}
use Rattle.adr_plain.proofs.types.add_interval.Given as goal

-- the names of the payloads so far stand there
abbrev pub invariant-loop-payload : goal.invariant-loop-payload
invariant-loop-payload l = l.names.items ≡ l.initial.names.items ++ flat_map (λ p. private_name p.kind) (take l.payload-index l.payload-items)
