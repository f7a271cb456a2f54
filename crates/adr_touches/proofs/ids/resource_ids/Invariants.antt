use Rattle.std.proofs.Common.{◌≡◌, map, take}
use Rattle.adr_touches.proofs.ids.resource_ids.Given as goal

-- the ids of the resources so far
abbrev pub invariant-loop-place : goal.invariant-loop-place
invariant-loop-place l = l.ids.items ≡ map (λ r. r.id) (take l.place l.book.objects.resources)
