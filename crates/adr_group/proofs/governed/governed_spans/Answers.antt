use Rattle.std.proofs.Common.{sym, subst}
use Rattle.adr_group.specs.Governed.{AreInOrder}
use Rattle.adr_group.proofs.Jobs.{none_left}
use Rattle.adr_group.proofs.Owned.{all_taken, own_in_order}
use Rattle.adr_group.proofs.governed.governed_spans.Goals as goal

pub returns-clause-order : goal.returns-clause-order
returns-clause-order c =
    subst AreInOrder (sym (all_taken c.args.number c.rest.rest.now c.rest.spans.items _ (none_left c.rest.rest.now c.in_default.ensures.cases) c.rest.invariant))
    (own_in_order c.args.number c.args.line.now c.segments-rest.ensures.canonical)
