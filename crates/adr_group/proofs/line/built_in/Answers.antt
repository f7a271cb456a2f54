use Rattle.std.proofs.Common.{ℤ, Option, None, if◌then◌else◌, arith}
use Rattle.adr_model.specs.declared.timeline.Winner.{Winner}
use Rattle.adr_model.specs.Governor.{winner_at}
use Rattle.adr_model.specs.Timeline.{shows}
use Rattle.adr_timeline.specs.Windows.{any_covers}
use Rattle.adr_group.specs.Repair.{given_entries}
use Rattle.adr_group.proofs.Seen.{parted, parted_cost, run_taken}
use Rattle.adr_group.proofs.line.built_in.Goals as goal

pub returns-in_err-inner-clause-compared : goal.returns-in_err-inner-clause-compared
returns-in_err-inner-clause-compared c =
    omega (arith, parted_cost (given_entries c.args.given.now) c.split_at.result.0.now c.split_at.result.1.now c.rest.rest.now (parted c.split_at.result.0.now c.split_at.result.1.now c.rest.rest.now _ c.split_at.ensures.front c.split_at.ensures.back c.rest.invariant.last), c.rest.invariant.compared, c.with_built.ensures.compared)

pub rest-preserved : goal.rest-preserved
rest-preserved c =
    let run = c.split_at.result.0.now in
    let more = c.split_at.result.1.now in
    let rest = c.rest.rest.now in
    let p = parted run more rest _ c.split_at.ensures.front c.split_at.ensures.back c.rest.invariant.last in
    let w : ℤ → Option Winner = λ t. winner_at (given_entries c.args.given.now) t in
    record {
      last = p.last;
      shown = run_taken w (λ t. shows c.rest.inner t) (λ t. shows c.in_ok-inner.inner t) (λ t. if any_covers c.args.spans.now t then w t else None) run more rest p c.in_ok-inner.ensures.shows c.rest.invariant.shown;
      compared = omega (arith, parted_cost (given_entries c.args.given.now) run more rest p, c.rest.invariant.compared, c.with_built.ensures.compared);
    }
