use Rattle.std.proofs.Common.{rules, refl}
use Rattle.adr_group.proofs.Owned.{none_starts, part_taken, parts_whole}
use Rattle.adr_group.proofs.parts.add_parts.Goals as goal

pub returns-then-not-is_before-clause-holds : goal.returns-then-not-is_before-clause-holds
returns-then-not-is_before-clause-holds c =
    parts_whole c.args.window.now.span c.args.spans.now c.rest.rest.now c.args.parts.now.items c.rest.parts.items c.rest.invariant
    (λ t h. none_starts c.rest.rest.now c.in-Some.span.now c.args.window.now t (rw c.in-Some.ensures.cases.0 refl) c.rest.invariant.order (search rules) h)

pub rest-preserved : goal.rest-preserved
rest-preserved c =
    part_taken c.args.window.now.span c.args.spans.now c.rest.rest.now c.in-Some.more.now c.in-Some.span.now c.args.parts.now.items c.rest.parts.items c.push.new.self.items _
    c.in-Some.ensures.cases.0 c.rest.invariant c.in_ok-push.ensures.items c.common.ensures.covers
