use Rattle.std.proofs.Common.{◌≡◌, [], sum_by, ap, arith}
use Rattle.adr_group.specs.Jobs.{most_done, IsDone}
use Rattle.adr_group.proofs.Jobs.{all_done, none_left}
use Rattle.adr_group.proofs.job.do_jobs.Goals as goal

pub returns-clause-done : goal.returns-clause-done
returns-clause-done g c =
    let none : c.rest.rest.now ≡ [] = none_left c.rest.rest.now c.in_default.ensures.cases in
    let nothing = ap (sum_by (most_done c.args.indexes.now)) none in
    record {
      each = all_done (IsDone c.args.indexes.now) c.args.jobs.now c.rest.rest.now c.rest.done.items none c.rest.invariant.done;
      compared = omega (arith, nothing, c.rest.invariant.compared);
    }
