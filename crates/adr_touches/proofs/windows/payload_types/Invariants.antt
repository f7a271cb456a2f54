use Rattle.std.proofs.Common.{◌≡◌, take}
use Rattle.adr_model.specs.Touches.{types_of}
use Rattle.adr_touches.proofs.windows.payload_types.Given as goal

-- the types of the payloads so far
abbrev pub invariant-loop-payload : goal.invariant-loop-payload
invariant-loop-payload l = l.types.items ≡ types_of (take l.payload-index l.payloads)
