use Rattle.std.proofs.Common.{◌++◌, [], ◌∷◌, List, ap, refl, ◌∙◌}
use Rattle.adr_time.specs.declared.span.Span.{Span}
use Rattle.adr_timeline.specs.Overlay.{spans_of}
use Rattle.adr_timeline.proofs.Each.{all_made, one_made}
use Rattle.adr_timeline.proofs.overlay.spans_of.Goals as goal

pub loop-entry-preserved : goal.loop-entry-preserved
loop-entry-preserved c =
    one_made spans_of c.args.entries.now c.loop-entry.entry-index c.loop-entry.spans.items _ c.loop-entry.invariant
    c.entry-item.result (c.entry-item.result.span ∷ []) c.push.new.self.items c.loop-entry-test.true c.entry-item.is refl c.in_ok-push.ensures.items

pub returns : goal.returns
returns c =
    all_made spans_of c.args.entries.now c.loop-entry.entry-index c.loop-entry.spans.items _ c.loop-entry.invariant c.loop-entry-test.false refl
    ∙ ap (λ (spans : List Span). spans ++ spans_of c.args.entries.now) c.in_ok-spans.ensures.items
