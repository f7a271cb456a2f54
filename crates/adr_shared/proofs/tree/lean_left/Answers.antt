use Rattle.std.proofs.Common.{◌≡◌, ◌+◌, ◌≤◌, max, ◌∷◌, ◌++◌, ◌∙◌, ap, refl, arith}
use Rattle.adr_shared.proofs.Leaned.{balanced, leaned_left, left_height, level}
use Rattle.adr_shared.proofs.Opened.{opened, node_holds}
use Rattle.adr_shared.proofs.tree.lean_left.Goals as goal

pub returns : goal.returns
returns g c =
    let outer = c.deref-outer.result.now in
    let inner = c.deref-inner.result.now in
    let right = c.args.right in
    let root = opened c.deref-outer.result.now c.left.view_is c.in-Fork.is c.deref-outer.ensures in
    let node = node_holds c.deref-outer.result.now c.left.invariant c.in-Fork.is c.deref-outer.ensures in
    let below = opened c.deref-inner.result.now (ap (λ n. n.right) c.outer.view_is) c.in-Fork-root.is c.deref-inner.ensures in
    let inside = node_holds c.deref-inner.result.now c.outer.invariant c.in-Fork-root.is c.deref-inner.ensures in
    let high : c.args.left.now.1 ≡ c.in-Fork.height = ap (λ d. d.1) root in
    let under : outer.right.1 ≡ c.in-Fork-root.height = ap (λ d. d.1) below in
    let far : outer.left.1 ≡ right.1 = omega (arith, node.0, node.1, high, under) in
    let first : inner.left.1 ≤ right.1 = omega (arith, node.0, node.1, inside.1, high, under) in
    let second : inner.right.1 ≤ right.1 = omega (arith, node.0, node.1, inside.1, high, under) in
    let near = c.in_ok-below.ensures ∙ ap (λ t. (outer.left.0 ++ outer.entry ∷ t.0, max outer.left.1 t.1 + 1)) c.in_ok-copy.ensures in
    balanced c.fork.result _ c.args.left.now right c.args.entry
    (leaned_left _ outer.left right inner.left inner.right outer.right _ _ _ _ _ _ _ _ _ root below near c.in_ok-above.ensures)
    (left_height _ _ _ c.requires
    (ap (λ t. max t.1 c.in_ok-above.above.1 + 1) near ∙ ap (λ t. max (max outer.left.1 inner.left.1 + 1) t.1 + 1) c.in_ok-above.ensures
    ∙ level right.1 outer.left.1 inner.left.1 inner.right.1 right.1 far first second refl))
    c.fork.ensures
