use Rattle.std.proofs.Common.{◌≡◌, ◌++◌, not, filter, length}
use Rattle.adr_schedule.specs.Moves.{is_among}
use Rattle.adr_regroup.proofs.program.without.Given as goal

-- the places so far, and then those of the rest
abbrev pub invariant-rest : goal.invariant-rest
invariant-rest l = l.left.items ++ filter (λ p. not (is_among l.others p)) l.rest ≡ filter (λ p. not (is_among l.others p)) l.places

abbrev pub decreases-rest : goal.decreases-rest
decreases-rest l = length l.rest
