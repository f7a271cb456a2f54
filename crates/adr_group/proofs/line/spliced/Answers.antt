use Rattle.std.proofs.Common.{◌≡◌, ℤ, List, if◌then◌else◌, ap, ◌∙◌}
use Rattle.std.proofs.lemmas.Result.{IfOk-weaker}
use Rattle.adr_time.specs.declared.span.Span.{Span}
use Rattle.adr_model.specs.Timeline.{shows}
use Rattle.adr_timeline.specs.Windows.{any_covers}
use Rattle.adr_lines.specs.Grouped.{any_covers_at}
use Rattle.adr_group.proofs.line.spliced.Goals as goal

pub returns-clause-shows : goal.returns-clause-shows
returns-clause-shows c =
    let covers : (t : ℤ) → any_covers c.deref-2.result.now t ≡ any_covers_at c.args.windows.now t = λ t.
    ap (λ (ss : List Span). any_covers ss t) c.deref-2.ensures.value ∙ c.in_ok-wide.ensures.covers t
    ∙ ap (λ (ss : List Span). any_covers ss t) c.deref.ensures.value ∙ c.in_ok-spans.ensures.covers t in
    IfOk-weaker c.spliced_in.result _ _ (λ line made t. made t ∙ ap (λ b. if b then shows c.args.inner.now t else shows c.args.line.now t) (covers t)) c.spliced_in.ensures.shows
