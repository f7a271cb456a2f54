use Rattle.std.proofs.Common.{arith, ◌+◌, ◌∙◌, sym, ap, Some}
use Rattle.adr_shared.specs.Map.{place_of}
use Rattle.adr_shared.proofs.Opened.{opened, parts_counted}
use Rattle.adr_shared.proofs.Path.{place_past, ascends_left, ascends_right, place_left, place_here, place_right}
use Rattle.adr_shared.proofs.tree.Tree.place.Goals as goal

pub overflow_add-result : goal.overflow_add-result
overflow_add-result g c =
    let parts = parts_counted c.deref-node.result.now c.rest.view_is c.in-Fork.is c.deref-node.ensures in
    omega (arith, c.path.invariant.within, parts, c.count.ensures.value, c.path.invariant.limit)

pub returns-in-Equal : goal.returns-in-Equal
returns-in-Equal g c =
    let whole = opened c.deref-node.result.now c.rest.view_is c.in-Fork.is c.deref-node.ensures in
    ap (λ n. Some (c.path.passed + n)) c.count.ensures.value
    ∙ ap (place_past c.path.passed) (place_here _ _ _ whole c.path.invariant.ascends _ (sym c.order_of.ensures ∙ c.in-Equal.is)) ∙ c.path.invariant.place

pub overflow_add-passed : goal.overflow_add-passed
overflow_add-passed g c =
    let parts = parts_counted c.deref-node.result.now c.rest.view_is c.in-Fork.is c.deref-node.ensures in
    omega (arith, c.path.invariant.within, parts, c.count-in-Greater.ensures.value, c.path.invariant.limit)

pub overflow_add-passed-in-Greater : goal.overflow_add-passed-in-Greater
overflow_add-passed-in-Greater g c =
    let parts = parts_counted c.deref-node.result.now c.rest.view_is c.in-Fork.is c.deref-node.ensures in
    omega (arith, c.path.invariant.within, parts, c.count-in-Greater.ensures.value, c.path.invariant.limit)

pub path-preserved-in-Less : goal.path-preserved-in-Less
path-preserved-in-Less g c =
    let whole = opened c.deref-node.result.now c.rest.view_is c.in-Fork.is c.deref-node.ensures in
    let parts = parts_counted c.deref-node.result.now c.rest.view_is c.in-Fork.is c.deref-node.ensures in
    record {
      ascends = ascends_left _ _ _ whole c.path.invariant.ascends;
      within = omega (arith, c.path.invariant.within, parts);
      limit = c.path.invariant.limit;
      place = ap (place_past c.path.passed) (place_left _ _ _ whole c.path.invariant.ascends _ (sym c.order_of.ensures ∙ c.in-Less.is)) ∙ c.path.invariant.place;
    }

pub path-preserved : goal.path-preserved
path-preserved g c =
    let whole = opened c.deref-node.result.now c.rest.view_is c.in-Fork.is c.deref-node.ensures in
    let parts = parts_counted c.deref-node.result.now c.rest.view_is c.in-Fork.is c.deref-node.ensures in
    record {
      ascends = ascends_right _ _ _ whole c.path.invariant.ascends;
      within = omega (arith, c.path.invariant.within, parts, c.count-in-Greater.ensures.value);
      limit = c.path.invariant.limit;
      place =
          ap (λ n. place_past (c.path.passed + (n + 1)) (place_of (g.K.MapKey.code c.args.key.now) c.deref-node.result.now.right.0)) c.count-in-Greater.ensures.value
          ∙ place_right _ _ _ whole c.path.invariant.ascends _ c.path.passed (sym c.order_of.ensures ∙ c.in-Greater.is) ∙ c.path.invariant.place;
    }
