use Rattle.std.proofs.Common.{List, ◌∙◌, ap, sym}
use Rattle.adr_time.specs.declared.span.Span.{Span}
use Rattle.std.proofs.lemmas.Result.{IfOk-weaker}
use Rattle.adr_timeline.specs.Windows.{any_covers, are_apart}
use Rattle.adr_timeline.proofs.Laid.{run_shows}
use Rattle.adr_timeline.proofs.timeline.Timeline.lay_run.Goals as goal

pub splice_all-requires : goal.splice_all-requires
splice_all-requires c = ap are_apart c.deref.ensures.value ∙ c.in_ok-windows-in-Some.ensures.apart

pub returns-in_ok-windows-in-Some-clause-shows : goal.returns-in_ok-windows-in-Some-clause-shows
returns-in_ok-windows-in-Some-clause-shows c = IfOk-weaker c.splice_all.result _ _
    (λ timeline spliced. run_shows c.args.shown.now c.args.entries.now c.in-Some.window c.deref.result.now c.args.self.now c.in_ok-laid-in-Some.laid timeline
    (sym c.hull_of.ensures ∙ c.in-Some.is) (λ t. ap (λ (ss : List Span). any_covers ss t) c.deref.ensures.value ∙ c.in_ok-windows-in-Some.ensures.covers t) c.in_ok-laid-in-Some.ensures.shows spliced)
    c.splice_all.ensures.shows
