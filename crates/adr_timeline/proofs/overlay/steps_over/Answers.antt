use Rattle.std.proofs.Common.{◌∙◌, ◌++◌, List, None, ap, ap₂, length, arith}
use Rattle.std.proofs.lemmas.Result.{IfOk-weaker}
use Rattle.adr_timeline.specs.declared.step.RankStep.{RankStep}
use Rattle.adr_timeline.specs.Steps.{lesser, rank_from, rises, steps_in_turn}
use Rattle.adr_timeline.proofs.Runs.{run_ranked, run_rises}
use Rattle.adr_timeline.proofs.overlay.steps_over.Goals as goal

pub merged-requires-clause-left : goal.merged-requires-clause-left
merged-requires-clause-left c = rw (c.deref.ensures.value, c.in_ok-add_run.ensures, c.in_ok-held.ensures.items) (run_ranked c.args.shown.now c.requires.shown).0

pub merged-requires-clause-right : goal.merged-requires-clause-right
merged-requires-clause-right c = rw c.of.ensures (run_ranked c.args.run.now c.requires.in_turn).0

pub returns-clause-ranks : goal.returns-clause-ranks
returns-clause-ranks c = IfOk-weaker c.merged.result _ _
    (λ steps merged t. merged.2 t
    ∙ ap₂ lesser
    (ap (λ (ss : List RankStep). rank_from None ss t) (c.deref.ensures.value ∙ c.in_ok-add_run.ensures)
    ∙ ap (λ (ss : List RankStep). rank_from None (ss ++ steps_in_turn c.args.shown.now) t) c.in_ok-held.ensures.items
    ∙ (run_ranked c.args.shown.now c.requires.shown).2 t)
    (ap (λ es. rank_from None (steps_in_turn es) t) c.of.ensures ∙ (run_ranked c.args.run.now c.requires.in_turn).2 t))
    c.merged.ensures.merged

pub returns-clause-compared : goal.returns-clause-compared
returns-clause-compared c =
    let held = ap rises (c.deref.ensures.value ∙ c.in_ok-add_run.ensures) in
    let none = ap (λ (ss : List RankStep). rises (ss ++ steps_in_turn c.args.shown.now)) c.in_ok-held.ensures.items in
    omega (arith, c.merged.ensures.compared, held, none, run_rises c.args.shown.now, run_rises c.of.result.entries.now, ap length c.of.ensures)
