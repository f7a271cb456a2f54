use Rattle.std.proofs.Common.{◌+◌, ◌≤◌, ◌++◌, List, length, sum_by}
use Rattle.std.specs.List.{AllZip}
use Rattle.adr_group.specs.declared.job.Done.{Done}
use Rattle.adr_group.specs.Jobs.{most_done, IsDone}
use Rattle.adr_group.proofs.job.do_jobs.Given as goal

-- what was done, and what is done for the jobs that are left, is done for all; and no more is compared
abbrev pub invariant-rest : goal.invariant-rest
invariant-rest g l = record {
  done : (more : List Done) → AllZip (IsDone l.indexes) l.rest more → AllZip (IsDone l.indexes) l.jobs (l.done.items ++ more);
  compared : sum_by (λ d. d.compared) l.done.items + sum_by (most_done l.indexes) l.rest ≤ sum_by (most_done l.indexes) l.jobs;
}

abbrev pub decreases-rest : goal.decreases-rest
decreases-rest g l = length l.rest
