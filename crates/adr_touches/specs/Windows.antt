-- Parts of the list of touches.
use Rattle.std.specs.Prelude.{ℕ, List, [], map, if◌then◌else◌, flat_map}
use Rattle.std.specs.List.{zip}
use Rattle.adr_value.specs.declared.payload.PayloadType.{PayloadType}
use Rattle.adr_time.specs.Spans.{lasts}
use Rattle.adr_time.specs.declared.span.Span.{Span}
use Rattle.adr_object.specs.declared.event.Interval.{Interval}
use Rattle.adr_model.specs.declared.touch.Touch.{Touch}
use Rattle.adr_model.specs.Touches.{types_of}

-- a touch of the window for each type
abbrev pub touches_in : List ℕ → Span → List PayloadType → List Touch
touches_in resource window kinds = map (λ payload_type. record { resource = resource; kind = payload_type; window = window }) kinds

-- a touch for each type of an interval that lasts
abbrev pub touches_at : List ℕ → Interval × Span → List Touch
touches_at resource p = if lasts p.1 then touches_in resource p.1 (types_of p.0.payloads) else []

-- the touches of intervals that lie there
abbrev pub touches_along : List ℕ → List Interval → List Span → List Touch
touches_along resource intervals spans = flat_map (touches_at resource) (zip intervals spans)
