-- Segments in chunks.
use Rattle.std.specs.Prelude.{◌<◌, ◌&&◌, Bool, true, false, not, ⊤, ℤ, int_le, List, [], ◌∷◌, ◌++◌, length, Option, Some, None, if◌then◌else◌}
use Rattle.std.specs.Option.{option_map_or}
use Rattle.adr_time.specs.Spans.{is_before}
use Rattle.adr_time.specs.declared.span.End.{End}
use Rattle.adr_time.specs.declared.span.End.TheVariants.{At, Endless}
use Rattle.adr_model.specs.declared.timeline.Segment.{Segment}
use Rattle.adr_timeline.specs.Parts.{leads_to}

-- the segments of the chunks, in order
abbrev pub listed : List (List Segment) → List Segment
listed [] = []
listed (c ∷ cs) = c ++ listed cs

-- no chunk is empty
abbrev pub AreFilled : List (List Segment) → Type 0
AreFilled [] = ⊤
AreFilled (c ∷ cs) = (0 < length c) × AreFilled cs

abbrev pub first_of : List Segment → Option Segment
first_of [] = None
first_of (s ∷ ss) = Some s

abbrev pub last_of : List Segment → Option Segment
last_of [] = None
last_of (s ∷ []) = Some s
last_of (s ∷ (r ∷ rs)) = last_of (r ∷ rs)

-- the last segment leads to the piece
abbrev pub goes_on : List Segment → Segment → Bool
goes_on ss p = option_map_or (λ s. leads_to s p) (last_of ss) false

-- the last segment ends after the instant
abbrev pub lasts_past : List Segment → ℤ → Bool
lasts_past ss t = option_map_or (λ s. is_before t s.end) (last_of ss) false

-- the instant is at the bound or after it, where there is one
abbrev pub is_from : Option ℤ → ℤ → Bool
is_from None t = true
is_from (Some a) t = int_le a t

-- the list ends at the end or before it
abbrev pub is_over_by : List Segment → End → Bool
is_over_by ss Endless = true
is_over_by ss (At t) = not (lasts_past ss t)

-- the list lies from the bound on and before the end
abbrev pub is_within : Option ℤ → End → List Segment → Bool
is_within from until ss = option_map_or (λ s. is_from from s.start) (first_of ss) true && is_over_by ss until

-- the list ends at the bound or before it, where there is one
abbrev pub is_past : Option ℤ → List Segment → Bool
is_past None ss = false
is_past (Some t) ss = is_over_by ss (At t)

-- no segment starts before the end
abbrev pub starts_late : End → List Segment → Bool
starts_late until ss = option_map_or (λ s. not (is_before s.start until)) (first_of ss) true

-- the chunks from the first on that ends after the instant
abbrev pub open_chunks : ℤ → List (List Segment) → List (List Segment)
open_chunks t [] = []
open_chunks t (c ∷ cs) = if lasts_past c t then c ∷ cs else open_chunks t cs

-- the same, of a bound
abbrev pub chunks_from : Option ℤ → List (List Segment) → List (List Segment)
chunks_from None cs = cs
chunks_from (Some t) cs = open_chunks t cs
