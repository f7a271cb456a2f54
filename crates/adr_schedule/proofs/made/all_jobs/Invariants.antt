use Rattle.std.proofs.Common.{◌++◌, List, flat_map, length}
use Rattle.std.specs.List.{AllZip}
use Rattle.std.specs.Option.{option_copied, option_map}
use Rattle.adr_model.specs.Lists.{In}
use Rattle.adr_group.specs.declared.job.RepairJob.{RepairJob}
use Rattle.adr_group.specs.Jobs.{IsJobOf}
use Rattle.adr_schedule.specs.declared.draft.Draft.{Draft}
use Rattle.adr_schedule.specs.Draft.{tasks_of}
use Rattle.adr_schedule.specs.Shift.{IsLaidBy}
use Rattle.adr_schedule.proofs.made.all_jobs.Given as goal

-- the drafts that are left are some of all; and the jobs so far, and those of them, do the tasks
abbrev pub invariant-rest : goal.invariant-rest
invariant-rest g l = record {
  own : (d : Draft) → In d l.rest → In d l.drafts;
  jobs : IsLaidBy (option_map g.R.Ranks.rank (option_copied l.ranks)) l.indexes l.change
      → (more : List RepairJob) → AllZip (IsJobOf l.indexes) (flat_map tasks_of l.rest) more
      → AllZip (IsJobOf l.indexes) (flat_map tasks_of l.drafts) (l.jobs.items ++ more);
}

abbrev pub decreases-rest : goal.decreases-rest
decreases-rest g l = length l.rest
