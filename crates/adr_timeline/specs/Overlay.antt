-- What a new event's entries are laid over.
use Rattle.std.specs.Prelude.{◌≡◌, ℤ, List, [], ◌∷◌, map, Option, Some, None, if◌then◌else◌}
use Rattle.adr_time.specs.Spans.{spanned}
use Rattle.adr_time.specs.declared.span.Span.{Span}
use Rattle.adr_model.specs.declared.entry.Entry.{Entry}
use Rattle.adr_model.specs.declared.entry.Rank.{Rank}
use Rattle.adr_model.specs.declared.timeline.Winner.{Winner}
use Rattle.adr_model.specs.declared.timeline.Segment.{Segment}
use Rattle.adr_model.specs.Timeline.{shows, span_of}
use Rattle.adr_timeline.specs.Windows.{any_covers}

-- from the earliest start of a span and the spans of entries to their latest end
abbrev pub hull_with : Span → List Entry → Span
hull_with span [] = span
hull_with span (e ∷ es) = hull_with (spanned span e.span) es

-- the same, of the entries alone
abbrev pub hull : List Entry → Option Span
hull [] = None
hull (e ∷ es) = Some (hull_with e.span es)

-- where the entries lie
abbrev pub spans_of : List Entry → List Span
spans_of entries = map (λ e. e.span) entries

-- what the entries meet of the timeline: what it shows inside their spans
abbrev pub IsMetBy : List Entry → List Segment → List Segment → Type 0
IsMetBy entries timeline met = (t : ℤ) → shows met t ≡ (if any_covers (spans_of entries) t then shows timeline t else None)

-- the segment as an entry, by the ranks of winners
abbrev pub shown_entry : (Winner → Rank) → Segment → Entry
shown_entry rank s = record { rank = rank s.winner; span = span_of s }
