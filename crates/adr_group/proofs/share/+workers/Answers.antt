use Rattle.std.proofs.Common.{◌≡◌, ◌+◌, ◌-◌, ◌*◌, ◌/◌, length, take, slice_range, List, IfOk, subst, ap, ◌∙◌, arith}
use Rattle.std.proofs.lemmas.Result.{IfOk-at_ok}
use Rattle.adr_group.specs.declared.job.RepairJob.{RepairJob}
use Rattle.adr_group.specs.Jobs.{AreDone}
use Rattle.adr_group.proofs.Sharing.{bound_le, none_more, shared}
use Rattle.adr_group.proofs.share.+workers.Goals as goal

-- the last worker's jobs stand behind those of the others
pub returns-clause-done : goal.returns-clause-done
returns-clause-done g t c =
    let indexes = c.args.indexes.now in
    let jobs = c.args.jobs.now in
    let n = length jobs in
    let w = c.args.workers in
    let worker = c.args.count - 1 in
    let next : worker + 1 ≡ c.args.count = omega arith in
    shared indexes c.in_ok-all.all.items c.in_ok-rest.rest.items c.append.new.self.items jobs c.chunk-part.result.now
    (worker * n / w) (c.args.count * n / w) (bound_le worker c.args.count n w (omega arith) (omega arith))
    c.in_ok-append.ensures.items
    (IfOk-at_ok (λ v. AreDone indexes (take (worker * n / w) jobs) v.items) c.in_ok-all.was c.join-theirs.ensures.second.0)
    (c.chunk-part.ensures.part ∙ ap (λ k. slice_range jobs (worker * n / w) (k * n / w)) next)
    (IfOk-at_ok (λ v. AreDone indexes c.chunk-part.result.now v.items) c.in_ok-rest.was c.join-theirs.ensures.first.0)

-- a worker with no jobs adds none
pub returns-then-part-eq0-clause-done : goal.returns-then-part-eq0-clause-done
returns-then-part-eq0-clause-done g t c =
    let indexes = c.args.indexes.now in
    let jobs = c.args.jobs.now in
    let n = length jobs in
    let w = c.args.workers in
    let worker = c.args.count - 1 in
    let next : worker + 1 ≡ c.args.count = omega arith in
    let same : take (worker * n / w) jobs ≡ take (c.args.count * n / w) jobs = none_more jobs c.chunk-part.result.now (worker * n / w) (c.args.count * n / w)
    (bound_le worker c.args.count n w (omega arith) (omega arith))
    (c.chunk-part.ensures.part ∙ ap (λ k. slice_range jobs (worker * n / w) (k * n / w)) next)
    c.if-part-eq0.true in
    subst (λ (l : List RepairJob). IfOk c.do_first.result (λ v. AreDone indexes l v.items)) same c.do_first.ensures.done
