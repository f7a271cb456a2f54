-- The entries of intervals that are laid out.
use Rattle.std.proofs.Common.{◌≡◌, ℕ, ◌+◌, List, [], ◌∷◌, ◌++◌, length, refl, ap, ◌∙◌, arith}
use Rattle.std.specs.Bool.{then_some}
use Rattle.std.specs.List.{zip, filter_map, enumerate_from, cons_option}
use Rattle.adr_value.specs.declared.payload.PayloadType.{PayloadType}
use Rattle.adr_time.specs.declared.span.Span.{Span}
use Rattle.adr_object.specs.declared.event.Interval.{Interval}
use Rattle.adr_model.specs.declared.entry.Entry.{Entry}
use Rattle.adr_model.specs.declared.entry.Placed.{Placed}
use Rattle.adr_model.specs.declared.written.Written.{Written}
use Rattle.adr_model.specs.Governor.{entry_at, entries_of}
use Rattle.adr_model.specs.Layout.{layout, placed_from}
use Rattle.adr_model.specs.Rank.{carries}
use Rattle.adr_plain.specs.Scan.{placed_entries}
use Rattle.std.specs.Prelude.{Result, Ok, Err}
use Rattle.std.specs.Result.{result_unwrap_or}
use Rattle.adr_refusal.specs.Answer.{result_map}
use Rattle.adr_refusal.specs.declared.refusal.Refusal.{Refusal}

pub placed_entries-from : (kind : PayloadType) (w : Written) (n : ℕ) (is : List Interval) (spans : List Span)
    → placed_entries kind w is (placed_from n spans)
    ≡ filter_map (λ p. then_some (carries p.1.0 kind) (entry_at w p.0 p.1.1)) (enumerate_from n (zip is spans))
placed_entries-from kind w n [] spans = refl
placed_entries-from kind w n (i ∷ is) [] = refl
placed_entries-from kind w n (i ∷ is) (s ∷ spans) = ap (cons_option (then_some (carries i kind) (entry_at w n s))) (placed_entries-from kind w (n + 1) is spans)

pub no_place : (kind : PayloadType) (w : Written) (is : List Interval) (ps : List Placed) → length ps ≡ 0 → placed_entries kind w is ps ≡ []
no_place kind w [] ps h = refl
no_place kind w (i ∷ is) [] h = refl
no_place kind w (i ∷ is) (p ∷ ps) h = absurd (omega arith)

pub placed_spans : (r : Result (List Span) Refusal) (ps : List Placed) → result_map (placed_from 0) r ≡ Ok ps → ps ≡ placed_from 0 (result_unwrap_or r [])
placed_spans (Ok spans) ps h = cc
placed_spans (Err f) ps h = cc

pub no_span : (r : Result (List Span) Refusal) (f : Refusal) → result_map (placed_from 0) r ≡ Err f → [] ≡ placed_from 0 (result_unwrap_or r [])
no_span (Ok spans) f h = cc
no_span (Err g) f h = refl

pub added_entries : (before later : List Entry) (kind : PayloadType) (w : Written) (ps : List Placed)
    → ps ≡ placed_from 0 (result_unwrap_or (layout w.event) [])
    → later ≡ before ++ placed_entries kind w w.event.intervals ps → later ≡ before ++ entries_of kind w
added_entries before later kind w ps is added =
    added
    ∙ ap (λ (qs : List Placed). before ++ placed_entries kind w w.event.intervals qs) is
    ∙ ap (λ (es : List Entry). before ++ es) (placed_entries-from kind w 0 w.event.intervals (result_unwrap_or (layout w.event) []))
