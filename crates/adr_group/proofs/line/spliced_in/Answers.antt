use Rattle.std.proofs.Common.{if◌then◌else◌, refl}
use Rattle.adr_model.specs.Timeline.{shows}
use Rattle.adr_timeline.specs.Windows.{any_covers}
use Rattle.adr_group.proofs.Seen.{parted, run_taken}
use Rattle.adr_group.proofs.line.spliced_in.Goals as goal

pub rest-init : goal.rest-init
rest-init c =
    let run = c.split_at.result.0.now in
    let others = c.split_at.result.1.now in
    let spans = c.args.spans.now in
    let p = parted run others spans _ c.split_at.ensures.front c.split_at.ensures.back c.requires.last in
    record {
      last = p.last;
      shown = run_taken (shows c.args.inner.now) (shows c.args.line.now) (shows c.in_ok-shown.shown) (λ t. if any_covers spans t then shows c.args.inner.now t else shows c.args.line.now t) run others spans p c.in_ok-shown.ensures.shows (λ t. refl);
    }

pub rest-preserved : goal.rest-preserved
rest-preserved c =
    let run = c.split_at-in-rest.result.0.now in
    let more = c.split_at-in-rest.result.1.now in
    let rest = c.rest.rest.now in
    let p = parted run more rest _ c.split_at-in-rest.ensures.front c.split_at-in-rest.ensures.back c.rest.invariant.last in
    record {
      last = p.last;
      shown = run_taken (shows c.args.inner.now) (shows c.rest.shown) (shows c.in_ok-shown-2.shown) (λ t. if any_covers c.args.spans.now t then shows c.args.inner.now t else shows c.args.line.now t) run more rest p c.in_ok-shown-2.ensures.shows c.rest.invariant.shown;
    }
