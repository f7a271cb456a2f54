-- A timeline: which interval governs at each instant.
use Rattle.std.specs.Prelude.{◌≡◌, ◌≢◌, ℤ, ◌≤ℤ◌, ⊤, List, [], ◌∷◌, Option, IsTrue, All}
use Rattle.std.specs.List.{find}
use Rattle.std.specs.Option.{option_map}
use Rattle.adr_time.specs.Spans.{covers, is_before}
use Rattle.adr_time.specs.declared.span.End.TheVariants.{At}
use Rattle.adr_time.specs.declared.span.Span.{Span}
use Rattle.adr_model.specs.declared.timeline.Winner.{Winner}
use Rattle.adr_model.specs.declared.timeline.Segment.{Segment}

abbrev pub span_of : Segment → Span
span_of s = record { start = s.start; end = s.end }

-- the winner of the segment that covers the instant
abbrev pub shows : List Segment → ℤ → Option Winner
shows timeline t = option_map (λ s. s.winner) (find (λ s. covers (span_of s) t) timeline)

-- b starts after a ends, or just where it ends and with another winner
abbrev pub Follows : Segment → Segment → Type 0
Follows a b = (end : ℤ) × (a.end ≡ At end) × (end ≤ℤ b.start) × (end ≡ b.start → a.winner ≢ b.winner)

-- each segment after the first follows the one before it
abbrev pub AllFollow : Segment → List Segment → Type 0
AllFollow a [] = ⊤
AllFollow a (b ∷ rest) = Follows a b × AllFollow b rest

-- segments are nonempty, in order and apart, and two that touch have different winners
abbrev pub IsCanonical : List Segment → Type 0
IsCanonical [] = ⊤
IsCanonical (s ∷ rest) = All (λ x. IsTrue (is_before x.start x.end)) (s ∷ rest) × AllFollow s rest

-- two canonical lists that show the same at every instant are equal
abbrev pub CanonicalIsUnique : Type 0
CanonicalIsUnique = (a b : List Segment) → IsCanonical a → IsCanonical b → ((t : ℤ) → shows a t ≡ shows b t) → a ≡ b
