-- The least rank from instant to instant.
use Rattle.std.specs.Prelude.{ℕ, ◌+◌, ◌*◌, ◌≤◌, ◌≡◌, ◌++◌, ◌⊎◌, length, ℤ, ◌≤ℤ◌, int_le, int_lt, ⊤, Bool, true, false, List, [], ◌∷◌, Option, Some, None, if◌then◌else◌, filter, not, ◌&&◌}
use Rattle.std.specs.Option.{option_map}
use Rattle.adr_time.specs.Spans.{covers, is_before, lasts}
use Rattle.adr_time.specs.declared.span.End.{End}
use Rattle.adr_time.specs.declared.span.End.TheVariants.{At, Endless}
use Rattle.adr_model.specs.declared.entry.Entry.{Entry}
use Rattle.adr_model.specs.declared.entry.Rank.{Rank}
use Rattle.adr_model.specs.declared.timeline.Winner.{Winner}
use Rattle.adr_model.specs.declared.timeline.Segment.{Segment}
use Rattle.adr_model.specs.Rank.{goes_before}
use Rattle.adr_model.specs.Governor.{first_of}
use Rattle.adr_timeline.specs.declared.step.RankStep.{RankStep}

-- the rank that goes before the other, where there are two
abbrev pub lesser : Option Rank → Option Rank → Option Rank
lesser None b = b
lesser (Some a) None = Some a
lesser (Some a) (Some b) = Some (if goes_before b a then b else a)

-- the least rank among the entries that cover the instant
abbrev pub rank_at : List Entry → ℤ → Option Rank
rank_at entries t = option_map (λ e. e.rank) (first_of (filter (λ e. covers e.span t) entries))

-- the rank of the last step by the instant, where that before the first step is given
abbrev pub rank_from : Option Rank → List RankStep → ℤ → Option Rank
rank_from rank [] t = rank
rank_from rank (s ∷ ss) t = if int_lt t s.from then rank else rank_from s.rank ss t

-- one for a step up to a rank, none for one down
abbrev pub rise : Option Rank → ℕ
rise None = 0
rise (Some rank) = 1

-- how many of the steps lead up to a rank
abbrev pub rises : List RankStep → ℕ
rises [] = 0
rises (s ∷ ss) = rise s.rank + rises ss

-- the steps are in order, the first at the instant or later
abbrev pub IsFrom : ℤ → List RankStep → Type 0
IsFrom t [] = ⊤
IsFrom t (s ∷ ss) = (t ≤ℤ s.from) × IsFrom s.from ss

-- the steps are in order
abbrev pub IsInOrder : List RankStep → Type 0
IsInOrder [] = ⊤
IsInOrder (s ∷ ss) = IsFrom s.from ss

-- such steps were put at the end of others
abbrev pub Adds : (List RankStep → Type 0) → List RankStep → List RankStep → Type 0
Adds Is old new = (added : List RankStep) × (new ≡ old ++ added) × Is added

-- the step from a rank to another, or none where they are the same
abbrev pub IsStepTo : Option Rank → ℤ → Option Rank → List RankStep → Type 0
IsStepTo before from rank steps =
    ((steps ≡ record { from = from; rank = rank } ∷ []) × (rank ≡ before → ⊥)) ⊎ ((steps ≡ []) × (rank ≡ before))

-- the steps have the lesser rank of both lists at each instant, and are no more than theirs
abbrev pub IsMergeOf : List RankStep → List RankStep → List RankStep → Type 0
IsMergeOf left right steps =
    IsInOrder steps × (length steps ≤ length left + length right)
    × ((t : ℤ) → rank_from None steps t ≡ lesser (rank_from None left t) (rank_from None right t))

-- the steps have the least rank of the entries at each instant
abbrev pub AreRanked : List Entry → List RankStep → Type 0
AreRanked entries steps =
    IsInOrder steps × (length steps ≤ 2 * length entries) × ((t : ℤ) → rank_from None steps t ≡ rank_at entries t)

-- the next step of two lists is the left one's
abbrev pub goes_left : List RankStep → List RankStep → Bool
goes_left left [] = true
goes_left [] (s ∷ right) = false
goes_left (r ∷ left) (s ∷ right) = int_le r.from s.from

-- down at the end, where there is one
abbrev pub down_at : End → List RankStep
down_at (At t) = record { from = t; rank = None } ∷ []
down_at Endless = []

-- up at the entry's start and down at its end, or none where it covers no instant
abbrev pub steps_of : Entry → List RankStep
steps_of e =
    if lasts e.span
    then record { from = e.span.start; rank = Some e.rank } ∷ down_at e.span.end
    else []

-- where the first of the steps begins
abbrev pub first_from : List RankStep → End
first_from [] = Endless
first_from (s ∷ ss) = At s.from

abbrev pub winner_of_rank : Rank → Winner
winner_of_rank rank = record { written = rank.written; place = rank.place }

-- the segment up to an end, where there is a rank
abbrev pub piece : ℤ → End → Option Rank → List Segment → List Segment
piece from until None rest = rest
piece from until (Some rank) rest = record { start = from; end = until; winner = winner_of_rank rank } ∷ rest

-- a segment from each step up to the next
abbrev pub pieces : List RankStep → List Segment
pieces [] = []
pieces (s ∷ ss) = piece s.from (first_from ss) s.rank (pieces ss)

-- the first of the entries does not start before the end
abbrev pub starts_from : End → List Entry → Bool
starts_from end [] = true
starts_from end (e ∷ es) = not (is_before e.span.start end)

-- the entries last, and each ends before the next one starts, or where it starts
abbrev pub is_run : List Entry → Bool
is_run [] = true
is_run (e ∷ es) = lasts e.span && starts_from e.span.end es && is_run es

-- the steps of each entry in turn
abbrev pub steps_in_turn : List Entry → List RankStep
steps_in_turn [] = []
steps_in_turn (e ∷ es) = steps_of e ++ steps_in_turn es

-- the segment of an entry that nothing goes before
abbrev pub own_segment : Entry → Segment
own_segment e = record { start = e.span.start; end = e.span.end; winner = winner_of_rank e.rank }
