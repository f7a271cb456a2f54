use Rattle.std.proofs.Common.{◌≡◌, ℤ, Option, if◌then◌else◌, length}
use Rattle.std.specs.List.{AllZip}
use Rattle.adr_value.specs.declared.payload.PayloadType.{PayloadType}
use Rattle.adr_model.specs.declared.timeline.Winner.{Winner}
use Rattle.adr_lines.specs.Indexes.{has_type}
use Rattle.adr_group.specs.Group.{shown_in}
use Rattle.adr_group.specs.Jobs.{IsOfType, ShowsOf}
use Rattle.adr_group.proofs.repair.together.Given as goal

-- the types that are left make of the timelines what all make of the old ones
abbrev pub invariant-rest : goal.invariant-rest
invariant-rest l =
    (shown : PayloadType → ℤ → Option Winner) → IsOfType shown → AllZip (ShowsOf shown) l.windows l.done
    → AllZip (ShowsOf shown) l.rest l.made
    × ((k : PayloadType) (t : ℤ)
    → (if has_type l.rest k then shown k t else shown_in l.lines k t) ≡ (if has_type l.windows k then shown k t else shown_in l.old k t))

abbrev pub decreases-rest : goal.decreases-rest
decreases-rest l = length l.rest
