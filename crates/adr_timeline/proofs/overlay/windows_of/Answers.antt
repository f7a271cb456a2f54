use Rattle.std.proofs.Common.{◌≡◌, ◌∙◌, List, true, ap}
use Rattle.std.proofs.lemmas.Result.{IfOk-weaker}
use Rattle.adr_time.specs.declared.span.Span.{Span}
use Rattle.adr_timeline.specs.Overlay.{spans_of}
use Rattle.adr_timeline.specs.Windows.{all_last, any_covers, are_apart}
use Rattle.adr_timeline.proofs.Laid.{run_apart}
use Rattle.adr_timeline.proofs.Touching.{apart_last}
use Rattle.adr_timeline.proofs.overlay.windows_of.Goals as goal

pub put_together-requires : goal.put_together-requires
put_together-requires c =
    record { last = ap all_last (c.deref.ensures.value ∙ c.in_ok-spans.ensures) ∙ apart_last (spans_of c.args.entries.now) (run_apart c.args.entries.now c.requires) }

pub returns-clause-apart : goal.returns-clause-apart
returns-clause-apart c =
    let apart : are_apart c.deref.result.now ≡ true = ap are_apart (c.deref.ensures.value ∙ c.in_ok-spans.ensures) ∙ run_apart c.args.entries.now c.requires in
    IfOk-weaker c.put_together.result _ _ (λ wide made. made apart) c.put_together.ensures.apart

pub returns-clause-covers : goal.returns-clause-covers
returns-clause-covers c =
    IfOk-weaker c.put_together.result _ _
    (λ wide made t. made t ∙ ap (λ (ss : List Span). any_covers ss t) (c.deref.ensures.value ∙ c.in_ok-spans.ensures))
    c.put_together.ensures.covers
