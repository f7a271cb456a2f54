use Rattle.std.proofs.Common.{rules, ◌≡◌, Some, ap, ◌∙◌}
use Rattle.indexmap.specs.IndexMap.{get}
use Rattle.adr_keys.specs.Blocks.{includes}
use Rattle.adr_keys.specs.Key.{same_key}
use Rattle.adr_keys.proofs.Held.{tells, told_same}
use Rattle.adr_keys.proofs.sets.Sets.shrink.Goals as goal

pub returns-in-Some : goal.returns-in-Some
returns-in-Some c = λ k p.
    let m = c.args.self.now.places in
    let new = c.prune.new.self in
    let was : Some c.in-Some.places.now ≡ get same_key m c.args.key.now = c.in-Some.ensures.value in
    let u = ((c.get_mut.follows.holds new).3 (search rules)).0 in
    told_same m (c.get_mut.follows.lender new) c.args.key.now includes (Some new) u p (c.prune.ensures p ∙ ap (λ o. tells includes o p) was) k
