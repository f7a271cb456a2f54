-- The span of a list of magnitudes is the span that was read.
use Rattle.std.proofs.Common.{◌≡◌, ℕ, ◌≤◌, ◌<◌, ◌+◌, Bool, true, false, if◌then◌else◌, IsTrue, List, Result, Ok, Err, IfOk, refl, sym}
use Rattle.std.proofs.Props.{props}
use Rattle.std.proofs.Math.Nat.{min-eq_left}
use mathlib.Core.HLevel.{is_prop→PathP}
use Rattle.jiff_core.specs.declared.span.Span.{Span}
use Rattle.jiff_core.specs.declared.error.Error.{Error}
use Rattle.jiff_fmt.specs.Temporal.{parse_span}
use Rattle.jiff_fmt.specs.Units.{signed_magnitudes}
use Rattle.adr_refusal.specs.declared.refusal.Refusal.TheVariants.{NegativeDuration}
use Rattle.adr_time.specs.declared.length.Length.TheVariants.{Of, Endless}
use Rattle.adr_time.specs.Lengths.{IsForward, NamesForward, length_named, length_of_read, span_of}

-- a span that is not below zero is that of its magnitudes
pub span_of_magnitudes : (s : Span) → s.negative ≡ false → span_of (signed_magnitudes s) ≡ s
unfolding span_of
span_of_magnitudes s up =
    let negative : false ≡ s.negative = sym up in
    let years = min-eq_left s.years_in in
    let months = min-eq_left s.months_in in
    let weeks = min-eq_left s.weeks_in in
    let days = min-eq_left s.days_in in
    let hours = min-eq_left s.hours_in in
    let minutes = min-eq_left s.minutes_in in
    let seconds = min-eq_left s.seconds_in in
    let milliseconds = min-eq_left s.milliseconds_in in
    let microseconds = min-eq_left s.microseconds_in in
    let nanoseconds = min-eq_left s.nanoseconds_in in
    let made = span_of (signed_magnitudes s) in
    λ i. record {
      negative = negative i;
      years = years i;
      months = months i;
      weeks = weeks i;
      days = days i;
      hours = hours i;
      minutes = minutes i;
      seconds = seconds i;
      milliseconds = milliseconds i;
      microseconds = microseconds i;
      nanoseconds = nanoseconds i;
      years_in = is_prop→PathP (λ j. years j ≤ 19_998) (λ j. hlevel props) made.years_in s.years_in i;
      months_in = is_prop→PathP (λ j. months j ≤ 239_976) (λ j. hlevel props) made.months_in s.months_in i;
      weeks_in = is_prop→PathP (λ j. weeks j ≤ 1_043_497) (λ j. hlevel props) made.weeks_in s.weeks_in i;
      days_in = is_prop→PathP (λ j. days j ≤ 7_304_484) (λ j. hlevel props) made.days_in s.days_in i;
      hours_in = is_prop→PathP (λ j. hours j ≤ 175_307_616) (λ j. hlevel props) made.hours_in s.hours_in i;
      minutes_in = is_prop→PathP (λ j. minutes j ≤ 10_518_456_960) (λ j. hlevel props) made.minutes_in s.minutes_in i;
      seconds_in = is_prop→PathP (λ j. seconds j ≤ 631_107_417_600) (λ j. hlevel props) made.seconds_in s.seconds_in i;
      milliseconds_in = is_prop→PathP (λ j. milliseconds j ≤ 631_107_417_600_000) (λ j. hlevel props) made.milliseconds_in s.milliseconds_in i;
      microseconds_in = is_prop→PathP (λ j. microseconds j ≤ 631_107_417_600_000_000) (λ j. hlevel props) made.microseconds_in s.microseconds_in i;
      nanoseconds_in = is_prop→PathP (λ j. nanoseconds j ≤ 9_223_372_036_854_775_807) (λ j. hlevel props) made.nanoseconds_in s.nanoseconds_in i;
      zero_has_no_sign = is_prop→PathP (λ j. IsTrue (negative j) → 0 < years j + months j + weeks j + days j + hours j + minutes j + seconds j + milliseconds j + microseconds j + nanoseconds j) (λ j. hlevel props) made.zero_has_no_sign s.zero_has_no_sign i;
    }

forward_chosen : (below endless : Bool) (parts : List ℕ)
    → IfOk (if below then Err NegativeDuration else (if endless then Ok Endless else Ok (Of (span_of parts)))) IsForward
unfolding span_of
forward_chosen true endless parts = tt
forward_chosen false true parts = tt
forward_chosen false false parts = refl

forward_read : (r : Result (List ℕ) Error) → IfOk (length_of_read r) IsForward
forward_read (Ok parts) = forward_chosen _ _ parts
forward_read (Err e) = tt

-- what a text names is not below zero
pub names_forward : NamesForward
unfolding length_named
names_forward text = forward_read (parse_span text)
