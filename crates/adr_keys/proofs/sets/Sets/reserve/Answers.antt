use Rattle.std.proofs.Common.{rules, ◌≡◌, Some, ap, ◌∙◌}
use Rattle.indexmap.specs.IndexMap.{get}
use Rattle.adr_keys.specs.Key.{same_key}
use Rattle.adr_keys.specs.Blocks.{includes, has_block}
use Rattle.adr_keys.proofs.Held.{tells, told_same, told_kept}
use Rattle.adr_keys.proofs.sets.Sets.reserve.Goals as goal

pub returns-in-Some-clause-same : goal.returns-in-Some-clause-same
returns-in-Some-clause-same c = λ k p.
    let m = c.args.self.now.places in
    let new = c.reserve.new.self in
    let was : Some c.in-Some.places.now ≡ get same_key m c.args.key.now = c.in-Some.ensures.value in
    let u = ((c.get_mut.follows.holds new).3 (search rules)).0 in
    told_same m (c.get_mut.follows.lender new) c.args.key.now includes (Some new) u p (c.reserve.ensures.same p ∙ ap (λ o. tells includes o p) was) k

pub returns-in-Some-clause-kept : goal.returns-in-Some-clause-kept
returns-in-Some-clause-kept c = λ k p.
    let m = c.args.self.now.places in
    let new = c.reserve.new.self in
    let was : Some c.in-Some.places.now ≡ get same_key m c.args.key.now = c.in-Some.ensures.value in
    let u = ((c.get_mut.follows.holds new).3 (search rules)).0 in
    told_kept m (c.get_mut.follows.lender new) c.args.key.now has_block (Some new) u p (λ q. c.reserve.ensures.kept p (ap (λ o. tells has_block o p) was ∙ q)) k
