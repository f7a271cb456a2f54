use Rattle.std.proofs.Common.{arith, subst}
use Rattle.adr_shared.specs.Tree.{IsSplit}
use Rattle.adr_shared.proofs.Opened.{left_shorter, node_holds}
use Rattle.adr_shared.proofs.tree.Tree.+split_first.Goals as goal

pub split_first-requires : goal.split_first-requires
split_first-requires g t c κs within =
    let shorter = left_shorter c.deref-node.result.now c.self.view_is c.in-Fork.is c.deref-node.ensures in
    (omega (arith, shorter), (within.0, within.1))

pub with_left-requires : goal.with_left-requires
with_left-requires g t c =
    let node = node_holds c.deref-node.result.now c.self.invariant c.in-Fork.is c.deref-node.ensures in
    let split = subst (IsSplit c.deref-node.result.now.left) c.in-Some.is c.in_ok-split_first.ensures in
    (omega (arith, node.0, split), omega (arith, node.0, split))
