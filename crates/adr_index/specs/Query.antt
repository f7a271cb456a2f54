-- Entries that are asked for.
use Rattle.std.specs.Prelude.{ℤ, int_le, ℕ, ◌+◌, ◌*◌, Bool, not, ◌&&◌, List, [], ◌∷◌, filter, length, if◌then◌else◌}
use Rattle.std.specs.List.{list_any}
use Rattle.adr_time.specs.Spans.{is_before, lasts}
use Rattle.adr_model.specs.declared.entry.Entry.{Entry}
use Rattle.adr_index.specs.declared.query.IndexQuery.{IndexQuery}
use Rattle.adr_index.specs.declared.query.Latest.{Latest}
use Rattle.adr_index.specs.declared.query.Latest.TheVariants.{Before, By}

-- the start is in time
abbrev pub begins : Latest → ℤ → Bool
begins (Before end) t = is_before t end
begins (By u) t = int_le t u

-- the entry covers some instant, and ends after the instant t
abbrev pub lasts_past : Entry → ℤ → Bool
lasts_past e t = lasts e.span && is_before t e.span.end

-- the entry lasts and starts in time
abbrev pub is_hit : IndexQuery → Entry → Bool
is_hit q e = lasts_past e q.from && begins q.latest e.span.start

-- the entry lasts and starts too late
abbrev pub is_late : IndexQuery → Entry → Bool
is_late q e = lasts_past e q.from && not (begins q.latest e.span.start)

-- the entries that are asked for
abbrev pub hits : List Entry → IndexQuery → List Entry
hits es q = filter (is_hit q) es

-- those of the wanted writes
abbrev pub wanted_of : (ℕ → Bool) → List Entry → List Entry
wanted_of is_wanted es = filter (λ e. is_wanted e.rank.written) es

-- the entry, where it is asked for
abbrev pub if_hit : Entry → IndexQuery → List Entry
if_hit e q = if is_hit q e then e ∷ [] else []

-- one of them lasts and starts too late
abbrev pub any_late : List Entry → IndexQuery → Bool
any_late es q = list_any (is_late q) es

-- how many a search comes to: those that are asked for, and the first that starts too late
abbrev pub reached : List Entry → IndexQuery → ℕ
reached es q = length (hits es q) + (if any_late es q then 1 else 0)

-- how many looks a search takes at most: two a level for each entry that it comes to, and one
abbrev pub looks : ℕ → List Entry → IndexQuery → ℕ
looks h es q = 1 + 2 * h * reached es q
