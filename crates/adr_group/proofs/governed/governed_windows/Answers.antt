use Rattle.std.proofs.Common.{refl, ◌∙◌}
use Rattle.std.proofs.lemmas.Result.{IfOk-weaker}
use Rattle.adr_group.proofs.Owned.{governed_kept}
use Rattle.adr_group.proofs.governed.governed_windows.Goals as goal

pub returns-clause-holds : goal.returns-clause-holds
returns-clause-holds c =
    IfOk-weaker c.covered_windows.result _ _
    (λ kept holds. governed_kept c.args.number c.args.line.now c.in_ok-met.met c.args.windows.now c.args.windows.now kept.items c.deref.result.now refl c.in_ok-met.ensures.shows
    (c.deref.ensures.value ∙ c.in_ok-spans.ensures.spans) holds)
    c.covered_windows.ensures.holds
