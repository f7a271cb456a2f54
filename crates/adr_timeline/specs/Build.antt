-- How much a timeline compares, and what it takes of each window.
use Rattle.std.specs.Prelude.{◌≡◌, ℕ, ℤ, ◌+◌, ◌*◌, List, [], ◌∷◌, Some, None, length}
use Rattle.adr_time.specs.declared.span.Span.{Span}
use Rattle.adr_model.specs.declared.entry.Entry.{Entry}
use Rattle.adr_model.specs.declared.timeline.Segment.{Segment}
use Rattle.adr_model.specs.Entries.{meeting}
use Rattle.adr_timeline.specs.declared.step.RankStep.{RankStep}
use Rattle.adr_timeline.specs.Parts.{joined_all, part}
use Rattle.adr_timeline.specs.Steps.{IsInOrder, pieces, rank_at, rank_from}

-- k(2k + 1) comparisons, k being the entries that meet the window
abbrev pub most_compared : List Entry → Span → ℕ
most_compared entries window =
    let k = length (meeting entries window) in
    k * (2 * k + 1)

-- the same of each of the windows
abbrev pub most_compared_all : List Entry → List Span → ℕ
most_compared_all entries [] = 0
most_compared_all entries (w ∷ ws) = most_compared entries w + most_compared_all entries ws

-- steps of the least rank of the entries were put at the end of the segments, as far as they are inside the window
abbrev pub Takes : List Entry → Span → List Segment → List Segment → Type 0
Takes entries window old new =
    (steps : List RankStep) × IsInOrder steps × ((t : ℤ) → rank_from None steps t ≡ rank_at entries t)
    × (new ≡ joined_all old (part (Some window.start) window.end (pieces steps)))
