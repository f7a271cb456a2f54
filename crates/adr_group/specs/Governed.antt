-- The windows of an event in which timelines show it, and timelines without it.
use Rattle.std.specs.Prelude.{◌≡◌, ◌==◌, ◌⊎◌, ◌≤ℤ◌, ⊤, ℕ, ℤ, Bool, true, false, List, [], ◌∷◌, filter, map, Option}
use Rattle.std.specs.Option.{option_map_or}
use Rattle.adr_time.specs.declared.span.Span.{Span}
use Rattle.adr_model.specs.declared.entry.Entry.{Entry}
use Rattle.adr_model.specs.declared.timeline.Segment.{Segment}
use Rattle.adr_model.specs.declared.timeline.Winner.{Winner}
use Rattle.adr_model.specs.Governor.{winner_at}
use Rattle.adr_model.specs.Timeline.{shows, span_of}
use Rattle.adr_lines.specs.Grouped.{any_covers_at}
use Rattle.adr_lines.specs.Right.{written_in}

-- what is shown is an interval of the event of that number
abbrev pub is_of : ℕ → Option Winner → Bool
is_of number shown = option_map_or (λ w. w.written == number) shown false

-- where the event of that number governs
abbrev pub own_spans : ℕ → List Segment → List Span
own_spans number line = map span_of (filter (λ s. s.winner.written == number) line)

-- the first of the spans starts at the instant or later, and each other one no earlier than the one before it
abbrev pub AreFrom : ℤ → List Span → Type 0
AreFrom t [] = ⊤
AreFrom t (s ∷ ss) = (t ≤ℤ s.start) × AreFrom s.start ss

-- none of the spans starts before the one before it
abbrev pub AreInOrder : List Span → Type 0
AreInOrder [] = ⊤
AreInOrder (s ∷ ss) = AreFrom s.start ss

-- at each instant the new line shows what wins among the writes; or what the old one does, and this is not of the event of
-- that number where the windows cover
abbrev pub IsWithout : List ℕ → List Entry → ℕ → List Entry → List Segment → List Segment → Type 0
IsWithout writes entries number windows old new =
    (t : ℤ)
    → (shows new t ≡ winner_at (written_in writes entries) t)
    ⊎ ((shows new t ≡ shows old t) × (any_covers_at windows t ≡ true → is_of number (shows old t) ≡ false))
