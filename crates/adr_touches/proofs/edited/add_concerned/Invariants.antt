use Rattle.std.proofs.Common.{◌≡◌, ◌++◌, take}
use Rattle.adr_touches.specs.Edited.{rows_on}
use Rattle.adr_touches.proofs.edited.add_concerned.Given as goal

-- the touches of the events so far
abbrev pub invariant-loop-event : goal.invariant-loop-event
invariant-loop-event l =
    l.touches.items ≡ l.fn.touches.items ++ rows_on l.old.objects l.new.objects l.rows (take l.event-index l.events) l.resource
