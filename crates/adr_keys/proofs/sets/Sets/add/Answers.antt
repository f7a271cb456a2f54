use Rattle.std.proofs.Common.{◌≡◌, Some, None, ap, sym, ◌∙◌}
use Rattle.indexmap.specs.IndexMap.{get}
use Rattle.adr_keys.specs.Key.{same_key}
use Rattle.adr_keys.specs.Blocks.{includes, has_block}
use Rattle.adr_keys.proofs.Held.{tells, told_same, told_kept}
use Rattle.adr_keys.proofs.sets.Sets.add.Goals as goal

pub returns-clause-same : goal.returns-clause-same
returns-clause-same c = λ k p.
    let m = c.args.self.now.places in
    let own = c.in_ok-own.own in
    let new = c.in_ok-places.places in
    let none : get same_key m own ≡ None = ap (get same_key m) c.in_ok-own.ensures ∙ c.requires in
    let u = c.in_ok-insert.ensures.updates.0 in
    told_same m c.insert.new.self own includes (Some new) u p (c.in_ok-places.ensures.empty p ∙ sym (ap (λ o. tells includes o p) none)) k

pub returns-clause-kept : goal.returns-clause-kept
returns-clause-kept c = λ k p.
    let m = c.args.self.now.places in
    let own = c.in_ok-own.own in
    let new = c.in_ok-places.places in
    let none : get same_key m own ≡ None = ap (get same_key m) c.in_ok-own.ensures ∙ c.requires in
    let u = c.in_ok-insert.ensures.updates.0 in
    told_kept m c.insert.new.self own has_block (Some new) u p (λ q. cc (sym (ap (λ o. tells has_block o p) none) ∙ q)) k
