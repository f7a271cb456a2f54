use Rattle.adr_group.proofs.Owned.{window_kept, window_passed}
use Rattle.adr_group.proofs.governed.met_windows.Goals as goal

pub rest-preserved-in_ok-push : goal.rest-preserved-in_ok-push
rest-preserved-in_ok-push c =
    window_kept c.args.windows.now c.rest.rest.now c.in-Some.more.now c.in-Some.window.now c.args.spans.now c.rest.left.now c.open_spans-left.result.now c.rest.kept.items
    c.in-Some.ensures.cases.0 c.rest.invariant c.open_spans-left.ensures.order c.open_spans-left.ensures.covers c.push.new.self.items c.in_ok-push.ensures.items

pub rest-preserved : goal.rest-preserved
rest-preserved c =
    window_passed c.args.windows.now c.rest.rest.now c.in-Some.more.now c.in-Some.window.now c.args.spans.now c.rest.left.now c.open_spans-left.result.now c.rest.kept.items
    c.in-Some.ensures.cases.0 c.rest.invariant c.open_spans-left.ensures.order c.open_spans-left.ensures.covers (c.start_in.ensures c.if-start_in.false)
