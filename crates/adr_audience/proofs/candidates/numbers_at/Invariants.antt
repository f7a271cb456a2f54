use Rattle.std.proofs.Common.{◌≡◌, take, flat_map, option_to_list}
use Rattle.adr_audience.specs.Asks.{number_at}
use Rattle.adr_audience.proofs.candidates.numbers_at.Given as goal

-- the numbers at the places so far
abbrev pub invariant-loop-place : goal.invariant-loop-place
invariant-loop-place l = l.numbers.items ≡ flat_map (λ p. option_to_list (number_at l.store l.resource l.ven p)) (take l.place-index l.places)
