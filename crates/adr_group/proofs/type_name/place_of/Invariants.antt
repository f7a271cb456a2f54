use Rattle.std.proofs.Common.{◌≡◌, ◌≤◌, ◌-◌, None, length, take, drop}
use Rattle.adr_value.specs.Payload.{name_of}
use Rattle.adr_shared.specs.Map.{lookup}
use Rattle.adr_group.proofs.type_name.place_of.Given as goal

-- the type is neither before the part that is left nor after it
abbrev pub invariant-halves : goal.invariant-halves
invariant-halves g l = record {
  order : l.low ≤ l.high;
  within : l.high ≤ length l.map;
  before : lookup (name_of l.payload_type) (take l.low l.map) ≡ None;
  after : lookup (name_of l.payload_type) (drop l.high l.map) ≡ None;
}

abbrev pub decreases-halves : goal.decreases-halves
decreases-halves g l = l.high - l.low
