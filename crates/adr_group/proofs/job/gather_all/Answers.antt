use Rattle.std.proofs.Common.{◌++◌}
use Rattle.adr_group.proofs.Gathered.{gather_one}
use Rattle.adr_group.proofs.job.gather_all.Goals as goal

pub rest-preserved : goal.rest-preserved
rest-preserved c = record {
  own = c.in_ok-gather.ensures.own;
  alike = gather_one c.gather.new.types.items c.rest.types.items c.in-Some.more.now c.rest.rest.now (c.args.types.now.items ++ c.args.windows.now) c.in-Some.group.now
      c.in-Some.ensures.cases.0 c.in_ok-gather.ensures.alike c.rest.invariant.alike;
}
