-- What the first segment that has not ended by an instant says of it.
use Rattle.std.specs.Prelude.{ℤ, int_le, List, [], ◌∷◌, Option, Some, None, if◌then◌else◌}
use Rattle.adr_time.specs.Spans.{is_before}
use Rattle.adr_time.specs.declared.span.End.{End}
use Rattle.adr_time.specs.declared.span.End.TheVariants.{At, Endless}
use Rattle.adr_model.specs.declared.timeline.Winner.{Winner}
use Rattle.adr_model.specs.declared.timeline.Segment.{Segment}

-- the first segment that ends after the instant
abbrev pub open_in : List Segment → ℤ → Option Segment
open_in [] t = None
open_in (s ∷ ss) t = if is_before t s.end then Some s else open_in ss t

-- the same, in the first of some chunks
abbrev pub open_in_first : List (List Segment) → ℤ → Option Segment
open_in_first [] t = None
open_in_first (c ∷ cs) t = open_in c t

-- its winner, where it has started
abbrev pub winner_at_open : Option Segment → ℤ → Option Winner
winner_at_open None t = None
winner_at_open (Some s) t = if int_le s.start t then Some s.winner else None

-- its end where it has started, else its start
abbrev pub change_at : Option Segment → ℤ → End
change_at None t = Endless
change_at (Some s) t = if int_le s.start t then s.end else At s.start
