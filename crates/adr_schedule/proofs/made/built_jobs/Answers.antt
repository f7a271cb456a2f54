use Rattle.std.proofs.Common.{[], sym, subst}
use Rattle.std.specs.List.{AllZip}
use Rattle.adr_group.specs.Jobs.{tasks_for, IsJobOf}
use Rattle.adr_schedule.specs.Draft.{tasks_of}
use Rattle.adr_schedule.proofs.Drafts.{every_job}
use Rattle.adr_schedule.proofs.Shifts.{none_left}
use Rattle.adr_schedule.proofs.made.built_jobs.Goals as goal

pub returns-clause-jobs : goal.returns-clause-jobs
returns-clause-jobs c indexes =
    let draft = c.args.draft.now in
    every_job (IsJobOf indexes) (tasks_of draft) c.rest.jobs.items
    (c.rest.invariant indexes [] (subst (λ l. AllZip (IsJobOf indexes) (tasks_for draft.group draft.writes l) []) (sym (none_left c.rest.rest.now c.in_default.ensures.cases)) tt))
