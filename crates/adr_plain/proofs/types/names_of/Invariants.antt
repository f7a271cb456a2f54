use Rattle.std.proofs.Common.{◌≡◌, take}
use Rattle.std.specs.List.{flat_map}
use Rattle.adr_model.specs.Queries.{private_name}
use Rattle.adr_plain.proofs.types.names_of.Given as goal

-- the names of the events so far
abbrev pub invariant-loop-place : goal.invariant-loop-place
invariant-loop-place l = l.names.items ≡ flat_map (λ w. flat_map (λ i. flat_map (λ p. private_name p.kind) i.payloads) w.event.intervals) (take l.place l.book.objects.events)
