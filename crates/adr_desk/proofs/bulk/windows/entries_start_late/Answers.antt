use Rattle.std.proofs.Common.{◌≤ℤ◌, inl, subst}
use Rattle.adr_desk.proofs.Covering.{next_late, none_late}
use Rattle.adr_desk.proofs.bulk.windows.entries_start_late.Goals as goal

pub rest-init : goal.rest-init
rest-init c t h = inl h

pub rest-preserved : goal.rest-preserved
rest-preserved c t h =
    next_late c.args.from c.rest.rest.now c.in-Some.more.now c.in-Some.entry.now t c.in-Some.ensures.cases.0
    (subst (λ s. c.args.from ≤ℤ s) c.nanoseconds-start.ensures.value (c.requires c.nanoseconds-start.result c.nanoseconds-start.ensures.in_range)) (c.rest.invariant t h)

pub returns : goal.returns
returns c t h = none_late c.args.from c.rest.rest.now t c.in_default.ensures.cases (c.rest.invariant t h)
