use Rattle.std.proofs.Common.{rules, ◌++◌, ◌∙◌, List, ap, sym}
use Rattle.adr_timeline.specs.declared.step.RankStep.{RankStep}
use Rattle.std.proofs.lemmas.Result.{on_ok_weaker}
use Rattle.adr_timeline.specs.Steps.{rises}
use Rattle.adr_timeline.proofs.Runs.{run_added}
use Rattle.adr_timeline.proofs.Stepped.{halved, both_within, all_within, parts_there, places_there, rises_within, whole_ranked}
use Rattle.adr_timeline.proofs.step.+rank.Goals as goal

pub returns-in_err-rank-2-clause-compared : goal.returns-in_err-rank-2-clause-compared
returns-in_err-rank-2-clause-compared t c =
    let h = halved c.split_at.result.0.now c.split_at.result.1.now c.args.entries.now c.in-Some.first.now c.in-Some.later.now c.in-Some.ensures.cases.0 (sym c.is_run-2.ensures ∙ c.if-is_run-2.false) c.split_at.ensures.front c.split_at.ensures.back in
    both_within c.split_at.result.0.now c.split_at.result.1.now c.args.entries.now c.args.meter.now c.rank.new.meter c.rank-2.new.meter h c.rank.ensures.compared c.rank-2.ensures.compared

pub merge_from-requires : goal.merge_from-requires
merge_from-requires t c =
    let front = c.split_at.result.0.now in
    let back = c.split_at.result.1.now in
    let h = halved front back c.args.entries.now c.in-Some.first.now c.in-Some.later.now c.in-Some.ensures.cases.0 (sym c.is_run-2.ensures ∙ c.if-is_run-2.false) c.split_at.ensures.front c.split_at.ensures.back in
    let first = c.in_ok-rank.ensures.ranked in
    let second = c.in_ok-rank-2.ensures.ranked in
    let parts = parts_there c.args.other.now.items c.rank.new.steps.items c.rank-2.new.steps.items first.0 second.0 c.len-start.result c.len-middle.result first.1 second.1 (c.len-start.ensures ∙ c.args.other.now.ok.0) (c.len-middle.ensures ∙ c.rank.new.steps.ok.0) in
    record {
      places = places_there c.args.other.now.items c.rank.new.steps.items c.rank-2.new.steps.items first.0 second.0 c.len-start.result c.len-middle.result first.1 second.1 (c.len-start.ensures ∙ c.args.other.now.ok.0) (c.len-middle.ensures ∙ c.rank.new.steps.ok.0);
      left = rw parts.1 first.2.0;
      right = rw parts.2 second.2.0;
    }

pub returns-clause-ranked : goal.returns-clause-ranked
returns-clause-ranked t c =
    let front = c.split_at.result.0.now in
    let back = c.split_at.result.1.now in
    let h = halved front back c.args.entries.now c.in-Some.first.now c.in-Some.later.now c.in-Some.ensures.cases.0 (sym c.is_run-2.ensures ∙ c.if-is_run-2.false) c.split_at.ensures.front c.split_at.ensures.back in
    let first = c.in_ok-rank.ensures.ranked in
    let second = c.in_ok-rank-2.ensures.ranked in
    let parts = parts_there c.args.other.now.items c.rank.new.steps.items c.rank-2.new.steps.items first.0 second.0 c.len-start.result c.len-middle.result first.1 second.1 (c.len-start.ensures ∙ c.args.other.now.ok.0) (c.len-middle.ensures ∙ c.rank.new.steps.ok.0) in
    on_ok_weaker c.merge_from.result
    (λ merged. (
      merged.0,
      merged.1 ∙ ap (λ (xs : List RankStep). xs ++ merged.0) (c.in_ok-rank-2.ensures.kept ∙ c.in_ok-rank.ensures.kept),
      whole_ranked front back c.args.entries.now first.0 second.0 merged.0 h first.2 second.2 (rw (parts.1, parts.2) at merged.2),
    ))
    c.merge_from.ensures.merged

pub returns-clause-kept : goal.returns-clause-kept
returns-clause-kept t c =
    let first = c.in_ok-rank.ensures.ranked in
    let second = c.in_ok-rank-2.ensures.ranked in
    let parts = parts_there c.args.other.now.items c.rank.new.steps.items c.rank-2.new.steps.items first.0 second.0 c.len-start.result c.len-middle.result first.1 second.1 (c.len-start.ensures ∙ c.args.other.now.ok.0) (c.len-middle.ensures ∙ c.rank.new.steps.ok.0) in
    on_ok_weaker c.merge_from.result (λ kept. kept ∙ parts.0) c.merge_from.ensures.kept

pub returns-clause-compared : goal.returns-clause-compared
returns-clause-compared t c =
    let front = c.split_at.result.0.now in
    let back = c.split_at.result.1.now in
    let h = halved front back c.args.entries.now c.in-Some.first.now c.in-Some.later.now c.in-Some.ensures.cases.0 (sym c.is_run-2.ensures ∙ c.if-is_run-2.false) c.split_at.ensures.front c.split_at.ensures.back in
    let first = c.in_ok-rank.ensures.ranked in
    let second = c.in_ok-rank-2.ensures.ranked in
    let parts = parts_there c.args.other.now.items c.rank.new.steps.items c.rank-2.new.steps.items first.0 second.0 c.len-start.result c.len-middle.result first.1 second.1 (c.len-start.ensures ∙ c.args.other.now.ok.0) (c.len-middle.ensures ∙ c.rank.new.steps.ok.0) in
    all_within front back c.args.entries.now c.args.meter.now c.rank.new.meter c.rank-2.new.meter c.merge_from.new.meter (rises first.0) (rises second.0) h c.rank.ensures.compared c.rank-2.ensures.compared (rises_within front first.0 first.2) (rises_within back second.0 second.2) (rw (parts.1, parts.2) at c.merge_from.ensures.compared)

pub returns-then-is_run-clause-ranked : goal.returns-then-is_run-clause-ranked
returns-then-is_run-clause-ranked t c = on_ok_weaker c.add_run.result (λ made. run_added c.args.entries.now c.args.steps.now.items c.add_run.new.steps.items (sym c.is_run.ensures ∙ c.if-is_run.true) made) c.add_run.ensures
