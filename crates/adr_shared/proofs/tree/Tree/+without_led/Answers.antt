use Rattle.std.proofs.Common.{arith, max, ◌∷◌, ◌++◌, ◌-◌, ◌≡◌, ◌+◌, ◌∙◌, sym, ap}
use Rattle.adr_shared.specs.Map.{IsAscending, without}
use Rattle.adr_shared.proofs.Edited.{rebalanced, retold, left_lowered, right_lowered}
use Rattle.adr_shared.proofs.Opened.{opened, opened_ascends, left_shorter, right_shorter, node_holds}
use Rattle.adr_shared.proofs.Parts.{parted, without_below, without_at, without_above}
use Rattle.adr_shared.proofs.tree.Tree.+without_led.Goals as goal

pub without_led-requires : goal.without_led-requires
without_led-requires g t c κs within =
    let ascends : IsAscending c.deref-node.result.now.left.0 = (parted _ _ _ (opened_ascends c.deref-node.result.now c.self.view_is c.in-Fork.is c.deref-node.ensures c.requires.ascends)).left in
    let shorter = left_shorter c.deref-node.result.now c.self.view_is c.in-Fork.is c.deref-node.ensures in
    (omega (arith, shorter), (within.0, (within.1, (ascends, c.requires.led))))

pub without_led-requires-in-Greater : goal.without_led-requires-in-Greater
without_led-requires-in-Greater g t c κs within =
    let ascends : IsAscending c.deref-node.result.now.right.0 = (parted _ _ _ (opened_ascends c.deref-node.result.now c.self.view_is c.in-Fork.is c.deref-node.ensures c.requires.ascends)).right in
    let shorter = right_shorter c.deref-node.result.now c.self.view_is c.in-Fork.is c.deref-node.ensures in
    (omega (arith, shorter), (within.0, (within.1, (ascends, c.requires.led))))

pub returns-in_ok-without_led-in-Less : goal.returns-in_ok-without_led-in-Less
returns-in_ok-without_led-in-Less g t c =
    let root = opened c.deref-node.result.now c.self.view_is c.in-Fork.is c.deref-node.ensures in
    let node = node_holds c.deref-node.result.now c.self.invariant c.in-Fork.is c.deref-node.ensures in
    let high : c.args.self.now.1 ≡ max c.deref-node.result.now.left.1 c.deref-node.result.now.right.1 + 1 = ap (λ d. d.1) root ∙ node.1 in
    let same = ap (λ d. without (g.K.MapKey.code c.args.key.now) d.0) root ∙ without_below (g.K.MapKey.code c.args.key.now) _ _ _ (sym c.order_of.ensures ∙ c.in-Less.is) (opened_ascends c.deref-node.result.now c.self.view_is c.in-Fork.is c.deref-node.ensures c.requires.ascends) in
    let edited = c.in_ok-without_led-in-Less.ensures in
    rebalanced _ c.in_ok-without_led-in-Less.field-0 c.deref-node.result.now.right _ _ (c.args.self.now.1 - 1) c.args.self.now.1
    (same ∙ ap (λ xs. xs ++ c.deref-node.result.now.entry ∷ c.deref-node.result.now.right.0) (sym edited.0))
    (λ h b. let p = left_lowered c.deref-node.result.now.left.1 c.deref-node.result.now.right.1 c.in_ok-without_led-in-Less.field-0.1 h node.0 edited.1 edited.2 b in (omega (arith, p, high), omega (arith, p, high)))
    c.with_left.ensures

pub returns-in_ok-without_led-in-Greater : goal.returns-in_ok-without_led-in-Greater
returns-in_ok-without_led-in-Greater g t c =
    let root = opened c.deref-node.result.now c.self.view_is c.in-Fork.is c.deref-node.ensures in
    let node = node_holds c.deref-node.result.now c.self.invariant c.in-Fork.is c.deref-node.ensures in
    let high : c.args.self.now.1 ≡ max c.deref-node.result.now.left.1 c.deref-node.result.now.right.1 + 1 = ap (λ d. d.1) root ∙ node.1 in
    let same = ap (λ d. without (g.K.MapKey.code c.args.key.now) d.0) root ∙ without_above (g.K.MapKey.code c.args.key.now) _ _ _ (sym c.order_of.ensures ∙ c.in-Greater.is) (opened_ascends c.deref-node.result.now c.self.view_is c.in-Fork.is c.deref-node.ensures c.requires.ascends) in
    let edited = c.in_ok-without_led-in-Greater.ensures in
    rebalanced _ c.deref-node.result.now.left c.in_ok-without_led-in-Greater.field-0 _ _ (c.args.self.now.1 - 1) c.args.self.now.1
    (same ∙ ap (λ xs. c.deref-node.result.now.left.0 ++ c.deref-node.result.now.entry ∷ xs) (sym edited.0))
    (λ h b. let p = right_lowered c.deref-node.result.now.left.1 c.deref-node.result.now.right.1 c.in_ok-without_led-in-Greater.field-0.1 h node.0 edited.1 edited.2 b in (omega (arith, p, high), omega (arith, p, high)))
    c.with_right.ensures

pub returns-in-Equal : goal.returns-in-Equal
returns-in-Equal g t c =
    let root = opened c.deref-node.result.now c.self.view_is c.in-Fork.is c.deref-node.ensures in
    let node = node_holds c.deref-node.result.now c.self.invariant c.in-Fork.is c.deref-node.ensures in
    let high : c.args.self.now.1 ≡ max c.deref-node.result.now.left.1 c.deref-node.result.now.right.1 + 1 = ap (λ d. d.1) root ∙ node.1 in
    let same = ap (λ d. without (g.K.MapKey.code c.args.key.now) d.0) root ∙ without_at (g.K.MapKey.code c.args.key.now) _ _ _ (sym c.order_of.ensures ∙ c.in-Equal.is) (opened_ascends c.deref-node.result.now c.self.view_is c.in-Fork.is c.deref-node.ensures c.requires.ascends) in
    retold _ _ _ _ _ (c.args.self.now.1 - 1) c.args.self.now.1 same (omega (arith, high)) (omega (arith, high)) c.join.ensures
