use Rattle.std.proofs.Common.{sym, subst}
use Rattle.adr_shared.specs.Map.{IsAscending}
use Rattle.adr_shared.proofs.Parts.{ascending_none}
use Rattle.adr_shared.proofs.map.SharedMap.new.Goals as goal

pub invariant_of-result : goal.invariant_of-result
invariant_of-result g c = subst (λ t. IsAscending t.0) (sym c.new.ensures) (ascending_none g.row.V.Denot)
