use Rattle.std.proofs.Common.{sym, subst}
use Rattle.adr_shared.specs.Map.{IsAscending}
use Rattle.adr_shared.proofs.Parts.{ascends_put}
use Rattle.adr_shared.proofs.map.SharedMap.put.Goals as goal

pub invariant_of-result : goal.invariant_of-result
invariant_of-result g c = subst (λ es. IsAscending es) (sym (c.in_ok-put.ensures.0)) (ascends_put _ _ _ c.self.invariant)
