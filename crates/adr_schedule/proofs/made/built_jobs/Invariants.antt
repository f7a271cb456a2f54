use Rattle.std.proofs.Common.{◌++◌, List, length}
use Rattle.std.specs.List.{AllZip}
use Rattle.adr_lines.specs.declared.indexes.Indexes.{Indexes}
use Rattle.adr_group.specs.declared.job.RepairJob.{RepairJob}
use Rattle.adr_group.specs.Jobs.{tasks_for, IsJobOf}
use Rattle.adr_schedule.specs.Draft.{tasks_of}
use Rattle.adr_schedule.proofs.made.built_jobs.Given as goal

-- the jobs so far, and those of the windows that are left, do the tasks
abbrev pub invariant-rest : goal.invariant-rest
invariant-rest l =
    (indexes : Indexes) (more : List RepairJob) → AllZip (IsJobOf indexes) (tasks_for l.draft.group l.draft.writes l.rest) more
    → AllZip (IsJobOf indexes) (tasks_of l.draft) (l.jobs.items ++ more)

abbrev pub decreases-rest : goal.decreases-rest
decreases-rest l = length l.rest
