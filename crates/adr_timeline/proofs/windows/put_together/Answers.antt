use Rattle.adr_timeline.proofs.Touching.{begun_together, current_closed, current_grown, together_done}
use Rattle.adr_timeline.proofs.windows.put_together.Goals as goal

pub rest-init : goal.rest-init
rest-init c = begun_together c.args.windows.now c.in-Some.others.now c.in-Some.first.now c.new-wide.result.items c.in-Some.ensures.cases.0 c.new-wide.ensures.items c.requires.last

pub rest-preserved-then-is_at : goal.rest-preserved-then-is_at
rest-preserved-then-is_at c =
    current_grown c.args.windows.now c.rest.rest.now c.in-Some-split_first.more.now c.in-Some-split_first.window.now c.rest.current c.rest.wide.items c.in-Some-split_first.ensures.cases.0 c.rest.invariant (c.is_at.ensures.meaning.0 c.if-is_at.true)

pub rest-preserved : goal.rest-preserved
rest-preserved c =
    current_closed c.args.windows.now c.rest.rest.now c.in-Some-split_first.more.now c.in-Some-split_first.window.now c.rest.current c.rest.wide.items c.in-Some-split_first.ensures.cases.0 c.rest.invariant c.push.new.self.items c.in_ok-push.ensures.items

pub returns-clause-covers : goal.returns-clause-covers
returns-clause-covers c =
    (together_done c.args.windows.now c.rest.rest.now c.rest.current c.rest.wide.items c.push-2.new.self.items c.in_default-split_first.ensures.cases c.rest.invariant c.in_ok-push-2.ensures.items).covers

pub returns-clause-last : goal.returns-clause-last
returns-clause-last c =
    (together_done c.args.windows.now c.rest.rest.now c.rest.current c.rest.wide.items c.push-2.new.self.items c.in_default-split_first.ensures.cases c.rest.invariant c.in_ok-push-2.ensures.items).last

pub returns-clause-apart : goal.returns-clause-apart
returns-clause-apart c =
    (together_done c.args.windows.now c.rest.rest.now c.rest.current c.rest.wide.items c.push-2.new.self.items c.in_default-split_first.ensures.cases c.rest.invariant c.in_ok-push-2.ensures.items).apart
