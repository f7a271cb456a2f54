-- Windows in order.
use Rattle.std.specs.Prelude.{ℤ, Bool, true, not, ◌&&◌, List, [], ◌∷◌}
use Rattle.std.specs.List.{list_any, list_all}
use Rattle.adr_time.specs.Spans.{covers, is_before, lasts}
use Rattle.adr_time.specs.declared.span.Span.{Span}

-- some window covers the instant
abbrev pub any_covers : List Span → ℤ → Bool
any_covers windows t = list_any (λ w. covers w t) windows

-- the first of the windows does not start before the window ends
abbrev pub is_followed_by : Span → List Span → Bool
is_followed_by w [] = true
is_followed_by w (v ∷ vs) = not (is_before v.start w.end)

-- the windows last, and each ends before the next one starts, or where it starts
abbrev pub are_apart : List Span → Bool
are_apart [] = true
are_apart (w ∷ ws) = lasts w && is_followed_by w ws && are_apart ws

-- each of the windows lasts some time
abbrev pub all_last : List Span → Bool
all_last windows = list_all lasts windows
