use Rattle.std.proofs.Common.{arith, max, ◌∷◌, ◌++◌, ◌≡◌, ◌+◌, ◌∙◌, sym, ap}
use Rattle.adr_refusal.specs.Copy.{IsCopyOf}
use Rattle.adr_shared.specs.Map.{IsAscending, put}
use Rattle.adr_shared.proofs.Edited.{rebalanced, forked, left_raised, right_raised}
use Rattle.adr_shared.proofs.Opened.{opened, opened_ascends, left_shorter, right_shorter, node_holds}
use Rattle.adr_shared.proofs.Parts.{parted, put_below, put_at, put_above}
use Rattle.adr_shared.proofs.tree.Tree.+put_entry.Goals as goal

pub put_entry-requires : goal.put_entry-requires
put_entry-requires g t c κs within =
    let ascends : IsAscending c.deref-node.result.now.left.0 = (parted _ _ _ (opened_ascends c.deref-node.result.now c.self.view_is c.in-Fork.is c.deref-node.ensures c.requires)).left in
    let shorter = left_shorter c.deref-node.result.now c.self.view_is c.in-Fork.is c.deref-node.ensures in
    (omega (arith, shorter), (within.0, (within.1, ascends)))

pub put_entry-requires-in-Greater : goal.put_entry-requires-in-Greater
put_entry-requires-in-Greater g t c κs within =
    let ascends : IsAscending c.deref-node.result.now.right.0 = (parted _ _ _ (opened_ascends c.deref-node.result.now c.self.view_is c.in-Fork.is c.deref-node.ensures c.requires)).right in
    let shorter = right_shorter c.deref-node.result.now c.self.view_is c.in-Fork.is c.deref-node.ensures in
    (omega (arith, shorter), (within.0, (within.1, ascends)))

pub returns-in_ok-put_entry-in-Less : goal.returns-in_ok-put_entry-in-Less
returns-in_ok-put_entry-in-Less g t c =
    let root = opened c.deref-node.result.now c.self.view_is c.in-Fork.is c.deref-node.ensures in
    let node = node_holds c.deref-node.result.now c.self.invariant c.in-Fork.is c.deref-node.ensures in
    let high : c.args.self.now.1 ≡ max c.deref-node.result.now.left.1 c.deref-node.result.now.right.1 + 1 = ap (λ d. d.1) root ∙ node.1 in
    let same = ap (λ d. put c.args.entry.0 c.args.entry.1 d.0) root ∙ put_below c.args.entry.0 c.args.entry.1 _ _ _ (sym c.order_of_entry.ensures ∙ c.in-Less.is) (opened_ascends c.deref-node.result.now c.self.view_is c.in-Fork.is c.deref-node.ensures c.requires) in
    let edited = c.in_ok-put_entry-in-Less.ensures in
    rebalanced _ c.in_ok-put_entry-in-Less.field-0 c.deref-node.result.now.right _ _ c.args.self.now.1 (c.args.self.now.1 + 1)
    (same ∙ ap (λ xs. xs ++ c.deref-node.result.now.entry ∷ c.deref-node.result.now.right.0) (sym edited.0))
    (λ h b. let p = left_raised c.deref-node.result.now.left.1 c.deref-node.result.now.right.1 c.in_ok-put_entry-in-Less.field-0.1 h node.0 edited.1 edited.2 b in (omega (arith, p, high), omega (arith, p, high)))
    c.with_left.ensures

pub returns-in_ok-put_entry-in-Greater : goal.returns-in_ok-put_entry-in-Greater
returns-in_ok-put_entry-in-Greater g t c =
    let root = opened c.deref-node.result.now c.self.view_is c.in-Fork.is c.deref-node.ensures in
    let node = node_holds c.deref-node.result.now c.self.invariant c.in-Fork.is c.deref-node.ensures in
    let high : c.args.self.now.1 ≡ max c.deref-node.result.now.left.1 c.deref-node.result.now.right.1 + 1 = ap (λ d. d.1) root ∙ node.1 in
    let same = ap (λ d. put c.args.entry.0 c.args.entry.1 d.0) root ∙ put_above c.args.entry.0 c.args.entry.1 _ _ _ (sym c.order_of_entry.ensures ∙ c.in-Greater.is) (opened_ascends c.deref-node.result.now c.self.view_is c.in-Fork.is c.deref-node.ensures c.requires) in
    let edited = c.in_ok-put_entry-in-Greater.ensures in
    rebalanced _ c.deref-node.result.now.left c.in_ok-put_entry-in-Greater.field-0 _ _ c.args.self.now.1 (c.args.self.now.1 + 1)
    (same ∙ ap (λ xs. c.deref-node.result.now.left.0 ++ c.deref-node.result.now.entry ∷ xs) (sym edited.0))
    (λ h b. let p = right_raised c.deref-node.result.now.left.1 c.deref-node.result.now.right.1 c.in_ok-put_entry-in-Greater.field-0.1 h node.0 edited.1 edited.2 b in (omega (arith, p, high), omega (arith, p, high)))
    c.with_right.ensures

pub with_entry-requires : goal.with_entry-requires
with_entry-requires g t c = rw (sym c.deref-node.ensures) (node_holds c.deref-node.result.now c.self.invariant c.in-Fork.is c.deref-node.ensures).0

pub returns-in-Equal : goal.returns-in-Equal
returns-in-Equal g t c =
    let root = opened c.deref-node.result.now c.self.view_is c.in-Fork.is c.deref-node.ensures in
    let node = node_holds c.deref-node.result.now c.self.invariant c.in-Fork.is c.deref-node.ensures in
    let high : c.args.self.now.1 ≡ max c.deref-node.result.now.left.1 c.deref-node.result.now.right.1 + 1 = ap (λ d. d.1) root ∙ node.1 in
    let same = ap (λ d. put c.args.entry.0 c.args.entry.1 d.0) root ∙ put_at c.args.entry.0 c.args.entry.1 _ _ _ (sym c.order_of_entry.ensures ∙ c.in-Equal.is) (opened_ascends c.deref-node.result.now c.self.view_is c.in-Fork.is c.deref-node.ensures c.requires) in
    let made : IsCopyOf c.with_entry.result (c.deref-node.result.now.left.0 ++ c.args.entry ∷ c.deref-node.result.now.right.0, max c.deref-node.result.now.left.1 c.deref-node.result.now.right.1 + 1) = rw c.deref-node.ensures c.with_entry.ensures in
    forked _ _ _ c.args.self.now.1 (c.args.self.now.1 + 1) same (omega (arith, high)) (omega (arith, high)) made
