use Rattle.std.proofs.Common.{length, take, ap, subst, ◌∙◌, arith}
use Rattle.std.proofs.Math.Seq.{take-length}
use Rattle.adr_group.specs.Jobs.{AreDone}
use Rattle.adr_group.proofs.Sharing.{bound_last}
use Rattle.adr_group.proofs.share.do_all.Goals as goal

-- the jobs of all workers are all jobs
pub returns-clause-done : goal.returns-clause-done
returns-clause-done g c =
    let jobs = c.args.jobs.now in
    subst (λ l. AreDone c.args.indexes.now l c.in_ok-done.done.items)
    (ap (λ k. take k jobs) (bound_last (length jobs) c.clamp-count.result (omega (arith, c.clamp-count.ensures))) ∙ take-length jobs)
    c.in_ok-done.ensures.done
