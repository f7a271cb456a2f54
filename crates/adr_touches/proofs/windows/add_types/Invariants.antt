use Rattle.std.proofs.Common.{◌≡◌, ◌++◌, take}
use Rattle.adr_touches.specs.Windows.{touches_in}
use Rattle.adr_touches.proofs.windows.add_types.Given as goal

-- the touches of the types so far
abbrev pub invariant-loop-payload_type : goal.invariant-loop-payload_type
invariant-loop-payload_type l =
    l.touches.items ≡ l.fn.touches.items ++ touches_in l.resource l.window (take l.payload_type-index l.types)
