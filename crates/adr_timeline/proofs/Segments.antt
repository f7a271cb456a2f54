-- Lists of segments, part by part.
use Rattle.std.specs.Prelude.{◌≡◌, ◌≢◌, ℤ, ◌≤ℤ◌, ⊤, List, [], ◌∷◌, Option, Some, None, if◌then◌else◌, IsTrue}
use Rattle.adr_time.specs.Spans.{covers, is_before}
use Rattle.adr_time.specs.declared.span.End.{End}
use Rattle.adr_time.specs.declared.span.End.TheVariants.{At, Endless}
use Rattle.adr_model.specs.declared.timeline.Winner.{Winner}
use Rattle.adr_model.specs.declared.timeline.Segment.{Segment}
use Rattle.adr_model.specs.Timeline.{span_of}

-- the winner of the first segment that covers the instant
abbrev pub winner_in : List Segment → ℤ → Option Winner
winner_in [] t = None
winner_in (s ∷ ss) t = if covers (span_of s) t then Some s.winner else winner_in ss t

-- ends at or before the instant
abbrev pub EndsBy : End → ℤ → Type 0
EndsBy (At u) t = u ≤ℤ t
EndsBy Endless t = ⊥

-- each of the rest comes after the segment, or right after it with another winner
abbrev pub IsApart : Segment → List Segment → Type 0
IsApart s [] = ⊤
IsApart s (r ∷ rs) = EndsBy s.end r.start × (s.end ≡ At r.start → s.winner ≢ r.winner)

-- nonempty, in order and apart
abbrev pub IsLinked : List Segment → Type 0
IsLinked [] = ⊤
IsLinked (s ∷ ss) = IsTrue (is_before s.start s.end) × IsApart s ss × IsLinked ss
