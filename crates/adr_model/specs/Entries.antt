-- What an index of entries answers, as the plain list of them.
use Rattle.std.specs.Prelude.{ℤ, ◌==◌, ◌&&◌, ◌||◌, nat_lt, int_lt, Bool, List, length, IsTrue, filter}
use Rattle.std.specs.Ordering.{int_eq}
use Rattle.std.specs.List.{AllAdjacentBelow}
use Rattle.adr_time.specs.Spans.{covers, meets}
use Rattle.adr_time.specs.declared.span.Span.{Span}
use Rattle.adr_model.specs.declared.entry.Entry.{Entry}

-- by start, then by written number, then by place
abbrev pub is_listed_before : Entry → Entry → Bool
is_listed_before a b =
    int_lt a.span.start b.span.start
    || (int_eq a.span.start b.span.start && (nat_lt a.rank.written b.rank.written || ((a.rank.written == b.rank.written) && nat_lt a.rank.place b.rank.place)))

-- the entries stand in that order, so no two have one written number and place and start
abbrev pub IsListed : List Entry → Type 0
IsListed entries = AllAdjacentBelow (λ a b. IsTrue (is_listed_before a b)) entries (length entries)

-- the entries that cover the instant
abbrev pub covering : List Entry → ℤ → List Entry
covering entries t = filter (λ e. covers e.span t) entries

-- the entries whose span meets the window
abbrev pub meeting : List Entry → Span → List Entry
meeting entries window = filter (λ e. meets e.span window) entries
