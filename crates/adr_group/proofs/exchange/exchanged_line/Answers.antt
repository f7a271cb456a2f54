use Rattle.std.proofs.Common.{drop, take, ap, subst, ◌∙◌}
use Rattle.std.proofs.lemmas.Result.{IfOk-weaker}
use Rattle.adr_lines.specs.Indexes.{under}
use Rattle.adr_group.specs.Governed.{IsWithout}
use Rattle.adr_group.proofs.Exchanging.{laid_and_left, only_laid}
use Rattle.adr_group.proofs.exchange.exchanged_line.Goals as goal

pub returns-in-Some-clause-after : goal.returns-in-Some-clause-after
returns-in-Some-clause-after c =
    let writes = c.args.writes.now in
    let windows = c.args.windows.now in
    let held = c.args.held.now in
    let entries = under c.args.indexes.now windows.payload_type in
    let laid = c.in_ok-laid.laid in
    let left = c.parted.ensures.leaving ∙ ap (take held.leaving) c.as_slice.ensures.value in
    let come = c.parted.ensures.coming ∙ ap (drop held.leaving) c.as_slice.ensures.value in
    IfOk-weaker c.left_line.result _ _
    (λ after made right. laid_and_left writes entries windows.entries.items c.args.line.now held right laid
    (rw (c.as_slice-2.ensures.value, come) at c.in_ok-laid.ensures.shows) c.in-Some.number after c.in-Some.is
    (subst (λ es. IsWithout writes entries c.in-Some.number es laid after) left made))
    c.left_line.ensures.shown

pub returns-in-None-clause-after : goal.returns-in-None-clause-after
returns-in-None-clause-after c right =
    let windows = c.args.windows.now in
    let held = c.args.held.now in
    let come = c.parted.ensures.coming ∙ ap (drop held.leaving) c.as_slice.ensures.value in
    only_laid c.args.writes.now (under c.args.indexes.now windows.payload_type) windows.entries.items c.args.line.now held right c.in_ok-laid.laid
    (rw (c.as_slice-2.ensures.value, come) at c.in_ok-laid.ensures.shows) c.in-None.is
