use Rattle.std.proofs.Common.{Some, ◌∙◌, sym, ap}
use Rattle.adr_shared.proofs.Opened.{opened}
use Rattle.adr_shared.proofs.Path.{ascends_left, ascends_right, value_left, value_here, value_right}
use Rattle.adr_shared.proofs.tree.Tree.get.Goals as goal

pub returns-in-Equal : goal.returns-in-Equal
returns-in-Equal g c =
    let whole = opened c.deref-node.result.now c.rest.view_is c.in-Fork.is c.deref-node.ensures in
    ap (λ v. Some v) c.value.ensures ∙ value_here _ _ _ whole c.path.invariant.ascends _ (sym c.order_of.ensures ∙ c.in-Equal.is) ∙ c.path.invariant.value

pub path-preserved-in-Less : goal.path-preserved-in-Less
path-preserved-in-Less g c =
    let whole = opened c.deref-node.result.now c.rest.view_is c.in-Fork.is c.deref-node.ensures in
    record {
      ascends = ascends_left _ _ _ whole c.path.invariant.ascends;
      value = value_left _ _ _ whole c.path.invariant.ascends _ (sym c.order_of.ensures ∙ c.in-Less.is) ∙ c.path.invariant.value;
    }

pub path-preserved : goal.path-preserved
path-preserved g c =
    let whole = opened c.deref-node.result.now c.rest.view_is c.in-Fork.is c.deref-node.ensures in
    record {
      ascends = ascends_right _ _ _ whole c.path.invariant.ascends;
      value = value_right _ _ _ whole c.path.invariant.ascends _ (sym c.order_of.ensures ∙ c.in-Greater.is) ∙ c.path.invariant.value;
    }
