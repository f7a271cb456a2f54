-- The spans of an event that is laid out.
use Rattle.std.proofs.Common.{◌≡◌, ℕ, ◌+◌, List, [], ◌∷◌, ◌++◌, map, length, refl, ap, ◌∙◌, arith}
use Rattle.std.specs.Prelude.{Result, Ok, Err}
use Rattle.std.specs.Result.{result_unwrap_or}
use Rattle.adr_refusal.specs.Answer.{result_map}
use Rattle.adr_refusal.specs.declared.refusal.Refusal.{Refusal}
use Rattle.adr_time.specs.declared.span.Span.{Span}
use Rattle.adr_model.specs.declared.entry.Placed.{Placed}
use Rattle.adr_object.specs.declared.event.Interval.{Interval}
use Rattle.adr_model.specs.declared.touch.Touch.{Touch}
use Rattle.adr_model.specs.declared.written.Written.{Written}
use Rattle.adr_model.specs.Layout.{layout, placed_from}
use Rattle.adr_model.specs.Touches.{touches_of}
use Rattle.adr_touches.specs.Windows.{touches_along}

placed_from-spans : (n : ℕ) (spans : List Span) → map (λ p. p.span) (placed_from n spans) ≡ spans
placed_from-spans n [] = refl
placed_from-spans n (s ∷ spans) = ap (λ (r : List Span). s ∷ r) (placed_from-spans (n + 1) spans)

same_places : (spans : List Span) (ps : List Placed) → ps ≡ placed_from 0 spans → map (λ p. p.span) ps ≡ spans
same_places spans ps h = ap (λ (qs : List Placed). map (λ p. p.span) qs) h ∙ placed_from-spans 0 spans

pub laid_spans : (r : Result (List Span) Refusal) (ps : List Placed) → result_map (placed_from 0) r ≡ Ok ps → map (λ p. p.span) ps ≡ result_unwrap_or r []
laid_spans (Ok spans) ps h = same_places spans ps cc
laid_spans (Err f) ps h = cc

pub no_span : (r : Result (List Span) Refusal) (f : Refusal) → result_map (placed_from 0) r ≡ Err f → [] ≡ result_unwrap_or r []
no_span (Ok spans) f h = cc
no_span (Err g) f h = refl

pub no_place : (resource : List ℕ) (intervals : List Interval) (ps : List Placed) → length ps ≡ 0 → touches_along resource intervals (map (λ p. p.span) ps) ≡ []
no_place resource [] ps h = refl
no_place resource (i ∷ is) [] h = refl
no_place resource (i ∷ is) (p ∷ ps) h = absurd (omega arith)

pub touches_of_spans : (before later : List Touch) (resource : List ℕ) (w : Written) (intervals : List Interval) (spans : List Span)
    → intervals ≡ w.event.intervals → spans ≡ result_unwrap_or (layout w.event) []
    → later ≡ before ++ touches_along resource intervals spans → later ≡ before ++ touches_of resource w
touches_of_spans before later resource w intervals spans all laid added =
    added
    ∙ ap (λ (is : List Interval). before ++ touches_along resource is spans) all
    ∙ ap (λ (ss : List Span). before ++ touches_along resource w.event.intervals ss) laid
