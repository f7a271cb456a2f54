use Rattle.std.proofs.Common.{◌≡◌, ◌+◌, ◌≤◌, max, ◌∷◌, ◌++◌, ◌∙◌, ap, refl, arith}
use Rattle.adr_shared.proofs.Leaned.{balanced, leaned_right, raised_right, raised_height, right_height, level}
use Rattle.adr_shared.proofs.Opened.{opened, node_holds}
use Rattle.adr_shared.proofs.tree.lean_right.Goals as goal

pub returns-then-height : goal.returns-then-height
returns-then-height g c =
    let outer = c.deref-outer.result.now in
    let root = opened c.deref-outer.result.now c.right.view_is c.in-Fork.is c.deref-outer.ensures in
    let node = node_holds c.deref-outer.result.now c.right.invariant c.in-Fork.is c.deref-outer.ensures in
    let high : c.args.right.now.1 ≡ max outer.left.1 outer.right.1 + 1 = ap (λ d. d.1) root ∙ node.1 in
    let lower : outer.left.1 ≤ outer.right.1 = omega (arith, c.if-height.true, c.height.ensures.value, c.height-2.ensures.value) in
    balanced c.fork_left.result _ c.args.left c.args.right.now c.args.entry
    (raised_right _ outer.left outer.right c.args.left c.in_ok-side.side _ _ _ _ root c.in_ok-side.ensures)
    (raised_height _ _ outer.left.1 outer.right.1 c.in_ok-side.side.1 c.requires high node.0 lower (ap (λ d. d.1) c.in_ok-side.ensures))
    c.fork_left.ensures

pub returns : goal.returns
returns g c =
    let outer = c.deref-outer.result.now in
    let inner = c.deref-inner.result.now in
    let left = c.args.left in
    let root = opened c.deref-outer.result.now c.right.view_is c.in-Fork.is c.deref-outer.ensures in
    let node = node_holds c.deref-outer.result.now c.right.invariant c.in-Fork.is c.deref-outer.ensures in
    let below = opened c.deref-inner.result.now (ap (λ n. n.left) c.outer.view_is) c.in-Fork-root.is c.deref-inner.ensures in
    let inside = node_holds c.deref-inner.result.now c.outer.invariant c.in-Fork-root.is c.deref-inner.ensures in
    let high : c.args.right.now.1 ≡ c.in-Fork.height = ap (λ d. d.1) root in
    let under : outer.left.1 ≡ c.in-Fork-root.height = ap (λ d. d.1) below in
    let far : outer.right.1 ≡ left.1 = omega (arith, node.0, node.1, high, under) in
    let first : inner.left.1 ≤ left.1 = omega (arith, node.0, node.1, inside.1, high, under) in
    let second : inner.right.1 ≤ left.1 = omega (arith, node.0, node.1, inside.1, high, under) in
    let near = c.in_ok-above.ensures ∙ ap (λ t. (t.0 ++ outer.entry ∷ outer.right.0, max t.1 outer.right.1 + 1)) c.in_ok-copy.ensures in
    balanced c.fork.result _ left c.args.right.now c.args.entry
    (leaned_right _ left outer.right inner.left inner.right outer.left _ _ _ _ _ _ _ _ _ root below c.in_ok-below.ensures near)
    (right_height _ _ _ c.requires
    (ap (λ t. max t.1 c.in_ok-above.above.1 + 1) c.in_ok-below.ensures ∙ ap (λ t. max (max left.1 inner.left.1 + 1) t.1 + 1) near
    ∙ level left.1 left.1 inner.left.1 inner.right.1 outer.right.1 refl first second far))
    c.fork.ensures
