-- Parts of lists of segments, and pieces put at the end of a list.
use Rattle.std.specs.Prelude.{Bool, ◌&&◌, ◌==◌, List, [], ◌∷◌, Option, Some, None, if◌then◌else◌, ℤ}
use Rattle.std.specs.Int.{int_max}
use Rattle.adr_time.specs.Spans.{earlier_end, ends_at, is_before}
use Rattle.adr_time.specs.declared.span.End.{End}
use Rattle.adr_time.specs.declared.span.End.TheVariants.{At, Endless}
use Rattle.adr_time.specs.declared.span.Span.{Span}
use Rattle.adr_model.specs.declared.timeline.Winner.{Winner}
use Rattle.adr_model.specs.declared.timeline.Segment.{Segment}

-- the two are one interval
abbrev pub same_winner : Winner → Winner → Bool
same_winner a b = (a.written == b.written) && (a.place == b.place)

-- the piece begins where the segment ends, with the same winner
abbrev pub leads_to : Segment → Segment → Bool
leads_to s p = ends_at s.end p.start && same_winner s.winner p.winner

-- the list with a piece at its end, as a part of the last segment where that goes on with the same winner
abbrev pub joined : List Segment → Segment → List Segment
joined [] p = p ∷ []
joined (s ∷ []) p = if leads_to s p then record s { end = p.end } ∷ [] else s ∷ p ∷ []
joined (s ∷ (r ∷ rs)) p = s ∷ joined (r ∷ rs) p

-- the same, of a piece that may be empty
abbrev pub joined_part : List Segment → Segment → List Segment
joined_part ss p = if is_before p.start p.end then joined ss p else ss

-- the segment, where it is not empty
abbrev pub put : Segment → List Segment → List Segment
put p ps = if is_before p.start p.end then p ∷ ps else ps

-- the list with the pieces put at its end
abbrev pub joined_all : List Segment → List Segment → List Segment
joined_all out [] = out
joined_all out (p ∷ ps) = joined_all (joined out p) ps

-- the start, or the bound where that is later
abbrev pub start_from : Option ℤ → ℤ → ℤ
start_from None a = a
start_from (Some b) a = int_max b a

-- the part of a segment from an instant on and before an end
abbrev pub trimmed : Option ℤ → End → Segment → Segment
trimmed from until s = record { start = start_from from s.start; end = earlier_end until s.end; winner = s.winner }

-- the part of each segment, where there is one
abbrev pub part : Option ℤ → End → List Segment → List Segment
part from until [] = []
part from until (s ∷ ss) = put (trimmed from until s) (part from until ss)

-- the part after an end, and from an instant on
abbrev pub after_end : ℤ → End → List Segment → List Segment
after_end start (At u) ss = part (Some (int_max u start)) Endless ss
after_end start Endless ss = []

-- the part after a window
abbrev pub after : Span → List Segment → List Segment
after w ss = after_end w.start w.end ss

-- the part after an end, where one is given, and before another end
abbrev pub part_after : Option End → End → List Segment → List Segment
part_after None until ss = part None until ss
part_after (Some (At u)) until ss = part (Some u) until ss
part_after (Some Endless) until ss = []

-- the list, then the outer segments after an end with the inner ones in each window
abbrev pub spliced_all : Option End → List Segment → List Segment → List Segment → List Span → List Segment
spliced_all from out outer inner [] = joined_all out (part_after from Endless outer)
spliced_all from out outer inner (w ∷ ws) =
    spliced_all (Some w.end) (joined_all (joined_all out (part_after from (At w.start) outer)) (part (Some w.start) w.end inner)) outer inner ws
