use Rattle.std.proofs.Common.{◌≡◌, map, take}
use Rattle.adr_desk.proofs.bulk.gathering.all_numbers.Given as goal

-- the numbers of the events before the place
abbrev pub invariant-loop-place : goal.invariant-loop-place
invariant-loop-place l = l.numbers.items ≡ map (λ w. w.written) (take l.place l.book.objects.events)
