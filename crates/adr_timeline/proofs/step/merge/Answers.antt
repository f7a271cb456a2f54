use Rattle.std.proofs.Common.{◌++◌, ◌<◌, [], ◌∷◌, List, drop, length, refl, sym, arith}
use Rattle.std.proofs.lemmas.Option.{get_or_from_slice_get}
use Rattle.adr_timeline.specs.declared.step.RankStep.{RankStep}
use Rattle.adr_timeline.proofs.Merged.{left_there, over_left, over_right, right_there, turn_left, turn_right, merge_done, goes_rest, begun_at, added_more}
use Rattle.adr_timeline.proofs.step.merge.Goals as goal
use Rattle.adr_timeline.proofs.step.merge.Goals.{then-goes_left, else-goes_left, then-passed_left-left, else-passed_left-left+then-passed_right-count}

pub returns-in_err-push_change-clause-compared : goal.returns-in_err-push_change-clause-compared
returns-in_err-push_change-clause-compared g c = elim c.if-goes_left.branch [
  | then-goes_left w ↦
      let goes = sym (goes_rest c.args.left.now (drop c.loop-passed_left.passed_right (g.R.StepList.listed c.args.right)) c.loop-passed_left.passed_left _ w.if-goes_left.ensures) in
      let inside : c.loop-passed_left.passed_left < length c.args.left.now = elim c.if-passed_left-left.branch [
        | then-passed_left-left v ↦ v.if-passed_left-left.true
        | else-passed_left-left+then-passed_right-count v ↦ left_there c.args.left.now (g.R.StepList.listed c.args.right) c.loop-passed_left.passed_left c.loop-passed_left.passed_right goes (omega (arith, v.if-passed_right-count.true, c.count-count.ensures))
      ] in
      over_left c.args.left.now (g.R.StepList.listed c.args.right) c.loop-passed_left.invariant.1.0 c.loop-passed_left.left_rank c.loop-passed_left.right_rank c.loop-passed_left.passed_left c.loop-passed_left.passed_right c.loop-passed_left.meter c.args.meter.now w.index-left-passed_left.result c.loop-passed_left.invariant.1.2 c.lesser-rank.new.meter inside w.index-left-passed_left.is (rw (w.left_rank-is, w.right_rank-is) at c.lesser-rank.ensures.compared)
  | else-goes_left w ↦
      let goes = sym (goes_rest c.args.left.now (drop c.loop-passed_left.passed_right (g.R.StepList.listed c.args.right)) c.loop-passed_left.passed_left _ w.if-goes_left.ensures) in
      let inside = right_there c.args.left.now (g.R.StepList.listed c.args.right) c.loop-passed_left.passed_left c.loop-passed_left.passed_right goes in
      let is = sym (get_or_from_slice_get (g.R.StepList.listed c.args.right) c.loop-passed_left.passed_right w.at-step.result w.at-step.result w.at-step.ensures) in
      over_right c.args.left.now (g.R.StepList.listed c.args.right) c.loop-passed_left.invariant.1.0 c.loop-passed_left.left_rank c.loop-passed_left.right_rank c.loop-passed_left.passed_left c.loop-passed_left.passed_right c.loop-passed_left.meter c.args.meter.now w.at-step.result c.loop-passed_left.invariant.1.2 c.lesser-rank.new.meter inside is (rw (w.left_rank-is, w.right_rank-is) at c.lesser-rank.ensures.compared)
]

pub loop-passed_left-preserved : goal.loop-passed_left-preserved
loop-passed_left-preserved g c = elim c.if-goes_left.branch [
  | then-goes_left w ↦
      let goes = sym (goes_rest c.args.left.now (drop c.loop-passed_left.passed_right (g.R.StepList.listed c.args.right)) c.loop-passed_left.passed_left _ w.if-goes_left.ensures) in
      let inside : c.loop-passed_left.passed_left < length c.args.left.now = elim c.if-passed_left-left.branch [
        | then-passed_left-left v ↦ v.if-passed_left-left.true
        | else-passed_left-left+then-passed_right-count v ↦ left_there c.args.left.now (g.R.StepList.listed c.args.right) c.loop-passed_left.passed_left c.loop-passed_left.passed_right goes (omega (arith, v.if-passed_right-count.true, c.count-count.ensures))
      ] in
      let done = c.loop-passed_left.invariant.1.0 in
      let put = c.in_ok-push_change.ensures in
      let more : List RankStep = done ++ put.0 in (
        c.lesser-rank.ensures.lesser,
        (
          more,
          added_more _ _ _ done _ c.loop-passed_left.invariant.1.1 put.1,
          begun_at c.args.left.now (g.R.StepList.listed c.args.right) more c.if-goes_left.left_rank _ c.if-goes_left.right_rank _ c.if-goes_left.passed_left _ c.if-goes_left.passed_right _ c.lesser-rank.new.meter c.args.meter.now w.left_rank-is w.right_rank-is w.passed_left-is w.passed_right-is
              (turn_left c.args.left.now (g.R.StepList.listed c.args.right) done put.0 more c.loop-passed_left.left_rank c.loop-passed_left.right_rank c.lesser-rank.result c.loop-passed_left.passed_left c.loop-passed_left.passed_right c.loop-passed_left.meter c.lesser-rank.new.meter c.args.meter.now w.index-left-passed_left.result c.loop-passed_left.invariant.1.2
              refl (rw (c.loop-passed_left.invariant.0, w.from-is) at put.2)
              inside w.index-left-passed_left.is
              goes
              (rw (w.left_rank-is, w.right_rank-is) at c.lesser-rank.ensures.lesser)
              (rw (w.left_rank-is, w.right_rank-is) at c.lesser-rank.ensures.compared)),
        ),
      )
  | else-goes_left w ↦
      let goes = sym (goes_rest c.args.left.now (drop c.loop-passed_left.passed_right (g.R.StepList.listed c.args.right)) c.loop-passed_left.passed_left _ w.if-goes_left.ensures) in
      let done = c.loop-passed_left.invariant.1.0 in
      let put = c.in_ok-push_change.ensures in
      let more : List RankStep = done ++ put.0 in (
        c.lesser-rank.ensures.lesser,
        (
          more,
          added_more _ _ _ done _ c.loop-passed_left.invariant.1.1 put.1,
          begun_at c.args.left.now (g.R.StepList.listed c.args.right) more c.if-goes_left.left_rank _ c.if-goes_left.right_rank _ c.if-goes_left.passed_left _ c.if-goes_left.passed_right _ c.lesser-rank.new.meter c.args.meter.now w.left_rank-is w.right_rank-is w.passed_left-is w.passed_right-is
              (turn_right c.args.left.now (g.R.StepList.listed c.args.right) done put.0 more c.loop-passed_left.left_rank c.loop-passed_left.right_rank c.lesser-rank.result c.loop-passed_left.passed_left c.loop-passed_left.passed_right c.loop-passed_left.meter c.lesser-rank.new.meter c.args.meter.now w.at-step.result c.loop-passed_left.invariant.1.2
              refl (rw (c.loop-passed_left.invariant.0, w.from-is) at put.2)
              (right_there c.args.left.now (g.R.StepList.listed c.args.right) c.loop-passed_left.passed_left c.loop-passed_left.passed_right goes) (sym (get_or_from_slice_get (g.R.StepList.listed c.args.right) c.loop-passed_left.passed_right w.at-step.result w.at-step.result w.at-step.ensures))
              goes
              (rw (w.left_rank-is, w.right_rank-is) at c.lesser-rank.ensures.lesser)
              (rw (w.left_rank-is, w.right_rank-is) at c.lesser-rank.ensures.compared)),
        ),
      )
]

pub returns-clause-merged : goal.returns-clause-merged
returns-clause-merged g c =
    let begun = c.loop-passed_left.invariant.1 in
    (begun.0, begun.1, merge_done c.args.left.now (g.R.StepList.listed c.args.right) begun.0 c.loop-passed_left.left_rank c.loop-passed_left.right_rank c.loop-passed_left.passed_left c.loop-passed_left.passed_right c.loop-passed_left.meter c.args.meter.now begun.2 (omega arith) (omega arith) c.requires.left c.requires.right)
