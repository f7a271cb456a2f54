use Rattle.std.proofs.Common.{sym}
use Rattle.adr_group.proofs.Seen.{lasting_taken}
use Rattle.adr_group.proofs.windows.lasting_spans.Goals as goal

pub rest-preserved-in_ok-push : goal.rest-preserved-in_ok-push
rest-preserved-in_ok-push c =
    lasting_taken c.args.windows.now c.rest.rest.now c.in-Some.more.now c.in-Some.window.now c.rest.spans.items c.push.new.self.items c.in-Some.ensures.cases.0 c.rest.invariant (sym c.if-lasts.ensures.test) c.in_ok-push.ensures.items
