use Rattle.std.proofs.Common.{◌++◌, List, Some, length}
use Rattle.std.specs.List.{AllZip}
use Rattle.adr_model.specs.Lists.{In}
use Rattle.adr_lines.specs.declared.grouped.TypeEntries.{TypeEntries}
use Rattle.adr_group.specs.declared.job.RepairJob.{RepairJob}
use Rattle.adr_group.specs.Jobs.{tasks_for, IsJobOf}
use Rattle.adr_schedule.specs.Draft.{tasks_of}
use Rattle.adr_schedule.specs.Shift.{IsLaidBy}
use Rattle.adr_schedule.proofs.made.exchange_jobs.Given as goal

-- the windows that are left are the draft's; and the jobs so far, and those of them, do the tasks
abbrev pub invariant-rest : goal.invariant-rest
invariant-rest g l = record {
  own : (w : TypeEntries) → In w l.rest → In w l.draft.windows.items;
  jobs : IsLaidBy (Some (g.R.Ranks.rank l.ranks)) l.indexes l.change
      → (more : List RepairJob) → AllZip (IsJobOf l.indexes) (tasks_for l.draft.group l.draft.writes l.rest) more
      → AllZip (IsJobOf l.indexes) (tasks_of l.draft) (l.jobs.items ++ more);
}

abbrev pub decreases-rest : goal.decreases-rest
decreases-rest g l = length l.rest
