use Rattle.std.proofs.Common.{sym, subst}
use Rattle.adr_shared.specs.Map.{IsAscending}
use Rattle.adr_shared.proofs.Parts.{ascends_without}
use Rattle.adr_shared.proofs.map.SharedMap.without.Goals as goal

pub invariant_of-result : goal.invariant_of-result
invariant_of-result g c = subst (λ es. IsAscending es) (sym (c.in_ok-without.ensures.0)) (ascends_without _ _ c.self.invariant)
