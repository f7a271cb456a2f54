use Rattle.std.proofs.Common.{rules, ◌≡◌, ◌||◌, eqb, Some, ap, ◌∙◌}
use Rattle.indexmap.specs.IndexMap.{get}
use Rattle.adr_keys.specs.Key.{same_key}
use Rattle.adr_keys.specs.Blocks.{includes, has_block}
use Rattle.adr_keys.proofs.Held.{tells, told_same, told_put}
use Rattle.adr_keys.proofs.sets.Sets.put.Goals as goal

pub returns-in-Some-clause-places : goal.returns-in-Some-clause-places
returns-in-Some-clause-places c = λ k p.
    let m = c.args.self.now.places in
    let new = c.put.new.self in
    let was : Some c.in-Some.places.now ≡ get same_key m c.args.key.now = c.in-Some.ensures.value in
    let u = ((c.get_mut.follows.holds new).3 (search rules)).0 in
    told_put m (c.get_mut.follows.lender new) c.args.key.now includes (Some new) u c.args.place p (c.put.ensures.places p ∙ ap (λ o. eqb p c.args.place || tells includes o p) was) k

pub returns-in-Some-clause-ready : goal.returns-in-Some-clause-ready
returns-in-Some-clause-ready c = λ k p.
    let m = c.args.self.now.places in
    let new = c.put.new.self in
    let was : Some c.in-Some.places.now ≡ get same_key m c.args.key.now = c.in-Some.ensures.value in
    let u = ((c.get_mut.follows.holds new).3 (search rules)).0 in
    told_same m (c.get_mut.follows.lender new) c.args.key.now has_block (Some new) u p (c.put.ensures.room p ∙ ap (λ o. tells has_block o p) was) k
