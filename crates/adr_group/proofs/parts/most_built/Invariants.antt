use Rattle.std.proofs.Common.{◌≡◌, ◌+◌, length}
use Rattle.std.specs.Option.{option_copied}
use Rattle.adr_group.specs.Repair.{indexed, most_inside}
use Rattle.adr_group.proofs.parts.most_built.Given as goal

-- the sum, and what is compared inside the windows that are left, is what is compared inside all
abbrev pub invariant-rest : goal.invariant-rest
invariant-rest l =
    l.most + most_inside l.given.writes.now (indexed (option_copied l.given.index)) l.rest
    ≡ most_inside l.given.writes.now (indexed (option_copied l.given.index)) l.windows

abbrev pub decreases-rest : goal.decreases-rest
decreases-rest l = length l.rest
