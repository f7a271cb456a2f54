use Rattle.std.proofs.Common.{◌∙◌, ◌∷◌, ◌++◌, [], ap}
use Rattle.adr_shared.proofs.Last.{pushed_below, pushed_values}
use Rattle.adr_shared.proofs.list.SharedList.with.Goals as goal

pub invariant_of-result : goal.invariant_of-result
invariant_of-result g c = rw c.in_ok-put.ensures (pushed_below c.self.inside.next c.args.value c.self.inside.values c.self.invariant)

pub returns : goal.returns
returns g c = rw c.in_ok-put.ensures (pushed_values c.self.inside.next c.args.value c.self.inside.values c.self.invariant ∙ ap (λ vs. vs ++ c.args.value ∷ []) c.self.view_is)
