use Rattle.std.proofs.Common.{◌≡◌, ℤ, ◌||◌, List, ◌∷◌, ap, sym, ◌∙◌}
use Rattle.adr_time.specs.Spans.{covers}
use Rattle.adr_time.specs.declared.span.Span.{Span}
use Rattle.adr_model.specs.declared.entry.Entry.{Entry}
use Rattle.adr_lines.specs.Grouped.{any_covers_at}
use Rattle.adr_group.proofs.windows.have_same_spans.Goals as goal

-- with one more of the same span on each side, they cover the same
same_with_one : (left more right others : List Entry) (window other : Entry) → left ≡ window ∷ more → right ≡ other ∷ others → window.span ≡ other.span
    → ((t : ℤ) → any_covers_at more t ≡ any_covers_at others t) → (t : ℤ) → any_covers_at left t ≡ any_covers_at right t
same_with_one left more right others window other l r span same t =
    ap (λ (es : List Entry). any_covers_at es t) l
    ∙ (ap (λ (s : Span). covers s t || any_covers_at more t) span
    ∙ (ap (λ b. covers other.span t || b) (same t) ∙ ap (λ (es : List Entry). any_covers_at es t) (sym r)))

pub rest-preserved : goal.rest-preserved
rest-preserved c same =
    c.rest.invariant (same_with_one c.rest.left.now c.in-Some.more.now c.rest.right.now c.in-Some-split_first.others_more.now c.in-Some.window.now c.in-Some-split_first.other.now
    c.in-Some.ensures.cases.0 c.in-Some-split_first.ensures.cases.0 (c.has_same_span.ensures c.if-not-has_same_span.false) same)
