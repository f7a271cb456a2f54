use Rattle.std.proofs.Common.{sum_by, ap, subst, arith}
use Rattle.std.specs.List.{AllZip}
use Rattle.adr_group.specs.Jobs.{IsDone}
use Rattle.adr_group.proofs.Tasks.{tasks_done}
use Rattle.adr_schedule.specs.Draft.{tasks_of}
use Rattle.adr_schedule.proofs.Drafts.{jobs_compare_one}
use Rattle.adr_schedule.proofs.made.one_made_by.Goals as goal

pub returns-in_err-made-clause-compared : goal.returns-in_err-made-clause-compared
returns-in_err-made-clause-compared g c =
    let indexes = c.args.indexes.now in
    let cost = jobs_compare_one indexes c.args.draft.now c.as_slice.result.now c.in_ok-jobs.jobs.items c.as_slice.ensures.value (c.in_ok-jobs.ensures.jobs indexes) in
    let same = ap (sum_by (λ d. d.compared)) c.as_slice-2.ensures.value in
    omega (arith, cost, same, c.in_ok-done.ensures.done.compared, c.count.ensures)

pub returns-clause-compared : goal.returns-clause-compared
returns-clause-compared g c =
    let indexes = c.args.indexes.now in
    let cost = jobs_compare_one indexes c.args.draft.now c.as_slice.result.now c.in_ok-jobs.jobs.items c.as_slice.ensures.value (c.in_ok-jobs.ensures.jobs indexes) in
    let same = ap (sum_by (λ d. d.compared)) c.as_slice-2.ensures.value in
    omega (arith, cost, same, c.in_ok-done.ensures.done.compared, c.count.ensures)

pub returns-clause-made : goal.returns-clause-made
returns-clause-made g c =
    let indexes = c.args.indexes.now in
    let jobs = c.in_ok-jobs.jobs.items in
    let done = c.in_ok-done.done.items in
    let each = subst (λ l. AllZip (IsDone indexes) l done) c.as_slice.ensures.value c.in_ok-done.ensures.done.each in
    let tasks = tasks_done indexes (tasks_of c.args.draft.now) jobs done (c.in_ok-jobs.ensures.jobs indexes) each in
    c.in_ok-made.ensures.made indexes (rw (c.as_slice-3.ensures.value) tasks)
