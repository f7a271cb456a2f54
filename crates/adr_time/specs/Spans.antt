-- Which instants a span covers, and which of two ends comes first.
use Rattle.std.specs.Prelude.{ℤ, ◌≤ℤ◌, ◌<ℤ◌, int_le, int_lt, Bool, true, false, ◌&&◌}
use Rattle.std.specs.Int.{int_max, int_min}
use Rattle.std.specs.Ordering.{int_eq}
use Rattle.adr_time.specs.declared.span.End.{End}
use Rattle.adr_time.specs.declared.span.End.TheVariants.{At, Endless}
use Rattle.adr_time.specs.declared.span.Span.{Span}

-- the instant comes before the end
abbrev pub IsBefore : ℤ → End → Type 0
IsBefore t (At end) = t <ℤ end
IsBefore t Endless = Unit {0}

-- the span covers the instant: it holds its start, and not its end
abbrev pub Covers : Span → ℤ → Type 0
Covers span t = (span.start ≤ℤ t) × IsBefore t span.end

-- some instant is covered by the span
abbrev pub Lasts : Span → Type 0
Lasts span = (t : ℤ) × Covers span t

-- some instant is covered by both spans
abbrev pub Meets : Span → Span → Type 0
Meets a b = (t : ℤ) × Covers a t × Covers b t

-- the test of `IsBefore`
abbrev pub is_before : ℤ → End → Bool
is_before t (At end) = int_lt t end
is_before t Endless = true

-- the test of `Covers`
abbrev pub covers : Span → ℤ → Bool
covers span t = int_le span.start t && is_before t span.end

-- the test of `Lasts`: the span starts before it ends
abbrev pub lasts : Span → Bool
lasts span = is_before span.start span.end

-- the test of `Meets`: both spans last, and each starts before the other ends
abbrev pub meets : Span → Span → Bool
meets a b = is_before a.start a.end && is_before b.start b.end && is_before a.start b.end && is_before b.start a.end

-- the end is that instant
abbrev pub ends_at : End → ℤ → Bool
ends_at (At u) t = int_eq u t
ends_at Endless t = false

-- the earlier of two ends
abbrev pub earlier_end : End → End → End
earlier_end (At u) (At v) = At (int_min u v)
earlier_end (At u) Endless = At u
earlier_end Endless e = e

-- the later of two ends
abbrev pub later_end : End → End → End
later_end (At u) (At v) = At (int_max u v)
later_end (At u) Endless = Endless
later_end Endless e = Endless

-- from the earlier start to the later end
abbrev pub spanned : Span → Span → Span
spanned a b = record { start = int_min a.start b.start; end = later_end a.end b.end }
