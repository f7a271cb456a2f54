use Rattle.std.proofs.Common.{◌≡◌, map, take}
use Rattle.adr_touches.proofs.ids.event_ids.Given as goal

-- the ids of the events so far
abbrev pub invariant-loop-place : goal.invariant-loop-place
invariant-loop-place l = l.ids.items ≡ map (λ w. w.event.id) (take l.place l.book.objects.events)
