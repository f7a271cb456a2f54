use Rattle.adr_group.proofs.Owned.{window_parted}
use Rattle.adr_group.proofs.parts.parts_of.Goals as goal

pub rest-preserved : goal.rest-preserved
rest-preserved c =
    window_parted c.args.windows.now c.rest.rest.now c.in-Some.more.now c.in-Some.window.now c.args.spans.now c.rest.left.now c.open_spans-left.result.now c.rest.parts.items c.add_parts.new.parts.items
    c.in-Some.ensures.cases.0 c.rest.invariant c.open_spans-left.ensures.order c.open_spans-left.ensures.covers c.in_ok-add_parts.ensures.kept c.in_ok-add_parts.ensures.holds
