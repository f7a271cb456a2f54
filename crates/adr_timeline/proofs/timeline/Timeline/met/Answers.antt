use Rattle.std.proofs.Common.{◌≡◌, ℤ, Bool, if◌then◌else◌, List, [], Option, None, ◌∙◌, ap}
use Rattle.std.proofs.lemmas.Result.{IfOk-weaker}
use Rattle.adr_time.specs.declared.span.Span.{Span}
use Rattle.adr_model.specs.declared.timeline.Segment.{Segment}
use Rattle.adr_model.specs.declared.timeline.Winner.{Winner}
use Rattle.adr_model.specs.Timeline.{shows}
use Rattle.adr_timeline.specs.Windows.{any_covers, are_apart}
use Rattle.adr_timeline.proofs.timeline.Timeline.met.Goals as goal

-- what is spliced into nothing shows nothing outside the windows
in_nothing : (windows spans : List Span) (nothing : List Segment) (t : ℤ) (met inner : Option Winner) → any_covers windows t ≡ any_covers spans t → nothing ≡ []
    → met ≡ (if any_covers windows t then inner else shows nothing t) → met ≡ (if any_covers spans t then inner else None)
in_nothing windows spans nothing t met inner same none made =
    made
    ∙ (ap (λ (c : Bool). if c then inner else shows nothing t) same
    ∙ ap (λ (ss : List Segment). if any_covers spans t then inner else shows ss t) none)

pub splice_all-requires : goal.splice_all-requires
splice_all-requires c = ap are_apart c.deref.ensures.value ∙ c.in_ok-windows.ensures.apart

pub returns-clause-shows : goal.returns-clause-shows
returns-clause-shows c =
    IfOk-weaker c.splice_all.result _ _
    (λ met made t. in_nothing c.deref.result.now _ c.new-nothing.result t (shows met t) (shows c.args.self.now t)
    (ap (λ (ss : List Span). any_covers ss t) c.deref.ensures.value ∙ c.in_ok-windows.ensures.covers t) c.new-nothing.ensures (made t))
    c.splice_all.ensures.shows
