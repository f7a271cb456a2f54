-- Where the intervals of an event lie in time (OpenADR 3.0 Definition: event, interval, intervalPeriod).
use Rattle.std.specs.Prelude.{ℕ, ℤ, ◌+◌, List, [], ◌∷◌, Result, Ok, Err, Option, Some, None}
use Rattle.std.specs.Option.{option_and_then, option_or}
use Rattle.adr_refusal.specs.Answer.{result_and_then, result_map}
use Rattle.adr_refusal.specs.declared.refusal.Refusal.{Refusal}
use Rattle.adr_refusal.specs.declared.refusal.Refusal.TheVariants.{NoStart, AfterEndless}
use Rattle.adr_time.specs.Ends.{end_after}
use Rattle.adr_time.specs.declared.span.End.{End}
use Rattle.adr_time.specs.declared.span.End.TheVariants.{At, Endless}
use Rattle.adr_time.specs.declared.length.Length.{Length}
use Rattle.adr_time.specs.declared.span.Span.{Span}
use Rattle.adr_object.specs.declared.event.Period.{Period}
use Rattle.adr_object.specs.declared.event.Interval.{Interval}
use Rattle.adr_object.specs.declared.event.Event.{Event}
use Rattle.adr_model.specs.declared.entry.Placed.{Placed}

-- how long a period lasts, if it says so
abbrev pub duration_of : Option Period → Option Length
duration_of period = option_and_then (λ p. p.duration) period

-- where an interval with no period of its own starts: first, at the event's start
abbrev pub first_start : Option Period → Result ℤ Refusal
first_start None = Err NoStart
first_start (Some period) = Ok period.start

-- and later, at the end of the interval before it
abbrev pub start_after : End → Result ℤ Refusal
start_after (At t) = Ok t
start_after Endless = Err AfterEndless

-- the end of what starts then and lasts that long; no length means zero
abbrev pub end_of : ℤ → Option Length → Result End Refusal
end_of start None = Ok (At start)
end_of start (Some length) = end_after start length

-- the span of that length from the start on
abbrev pub span_from : Option Length → ℤ → Result Span Refusal
span_from length start = result_map (λ end. record { start = start; end = end }) (end_of start length)

-- the span of one interval, where `next` is where it starts if it has no period of its own: its own duration, or
-- else the event's default one
abbrev pub interval_span : Option Period → Result ℤ Refusal → Option Period → Result Span Refusal
interval_span default next None = result_and_then (span_from (duration_of default)) next
interval_span default next (Some own) = span_from (option_or own.duration (duration_of default)) own.start

-- the spans of the intervals in order, or the fault of the earliest interval that has one
abbrev pub interval_spans : Option Period → Result ℤ Refusal → List Interval → Result (List Span) Refusal
interval_spans default next [] = Ok []
interval_spans default next (i ∷ is) =
    result_and_then
    (λ span. result_map (λ spans. span ∷ spans) (interval_spans default (start_after span.end) is))
    (interval_span default next i.period)

-- the layout of an event, with the fault of its earliest interval that has one
unfoldable pub layout : Event → Result (List Span) Refusal
layout event = interval_spans event.interval_period (first_start event.interval_period) event.intervals

-- spans with their places, counted from a number
abbrev pub placed_from : ℕ → List Span → List Placed
placed_from n [] = []
placed_from n (span ∷ spans) = record { span = span; place = n } ∷ placed_from (n + 1) spans
