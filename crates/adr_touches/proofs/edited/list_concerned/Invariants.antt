use Rattle.std.proofs.Common.{◌≡◌, flat_map, take}
use Rattle.adr_touches.specs.Edited.{rows_on}
use Rattle.adr_touches.proofs.edited.list_concerned.Given as goal

-- the touches of the resources so far
abbrev pub invariant-loop-resource : goal.invariant-loop-resource
invariant-loop-resource l =
    l.touches.items ≡ flat_map (rows_on l.old.objects l.new.objects l.rows l.events) (take l.resource-index l.resources)
