-- No two intervals of one whole book have one rank, and what governs is the one candidate of least rank.
use Rattle.std.specs.Prelude.{◌≡◌, ◌≢◌, ◌==◌, ◌&&◌, ℕ, ℤ, Bool, true, false, List, [], map, Option, Some, None}
use Rattle.std.specs.List.{IsDistinct}
use Rattle.std.specs.Ordering.{int_eq}
use Rattle.adr_value.specs.declared.payload.PayloadType.{PayloadType}
use Rattle.adr_time.specs.declared.span.Span.{Span}
use Rattle.adr_model.specs.declared.entry.Entry.{Entry}
use Rattle.adr_model.specs.declared.entry.Rank.{Rank}
use Rattle.adr_model.specs.declared.timeline.Winner.{Winner}
use Rattle.adr_model.specs.declared.written.Written.{Written}
use Rattle.adr_model.specs.declared.entry.Tie.{Tie}
use Rattle.adr_model.specs.Rank.{goes_before, ranked}
use Rattle.adr_model.specs.Book.{Book}
use Rattle.adr_model.specs.Governor.{entry_at, entries_for, candidates, governs, winner_of}
use Rattle.adr_model.specs.Lists.{In}
use Rattle.adr_model.specs.Whole.{IsWhole}

-- the entries are of one write and one place
abbrev pub same_mark : Entry → Entry → Bool
same_mark a b = (a.rank.written == b.rank.written) && (a.rank.place == b.rank.place)

-- two intervals of one rank are one interval of one event, under either rule for ties
abbrev pub IntervalsAreApart : Type 0
IntervalsAreApart =
    (tie : Tie) (book : Book) → IsWhole book → (w v : Written) → In w book.events → In v book.events
    → (i j : ℕ) (a b : Span) → (ranked tie (entry_at w i a)).rank ≡ (ranked tie (entry_at v j b)).rank → (w ≡ v) × (i ≡ j)

-- no two entries of a resource and a type are of one write and one place
abbrev pub EntriesAreApart : Type 0
EntriesAreApart = (book : Book) → IsWhole book → (id : List ℕ) (payload_type : PayloadType) → IsDistinct same_mark (entries_for book id payload_type)

-- the two ranks are equal
abbrev pub same_rank : Rank → Rank → Bool
same_rank a b = (a.priority == b.priority) && (int_eq a.late b.late && ((a.written == b.written) && (a.place == b.place)))

-- what competes at an instant, with its ranks under a rule for ties
abbrev pub ranked_candidates : Tie → Book → List ℕ → PayloadType → ℤ → List Entry
ranked_candidates tie book id payload_type t = map (ranked tie) (candidates book id payload_type t)

-- no two candidates of an instant have one rank, under either rule for ties
abbrev pub CandidatesAreApart : Type 0
CandidatesAreApart =
    (tie : Tie) (book : Book) → IsWhole book → (id : List ℕ) (payload_type : PayloadType) (t : ℤ)
    → IsDistinct same_rank (map (λ e. e.rank) (ranked_candidates tie book id payload_type t))

-- the entry is in the list, and none goes before it
abbrev pub IsLeast : List Entry → Entry → Type 0
IsLeast es e = In e es × ((f : Entry) → In f es → goes_before f.rank e.rank ≡ false)

-- the winner of a least candidate under the rule for ties, or none where there is no candidate
abbrev pub IsGovernor : Tie → Book → List ℕ → PayloadType → ℤ → Option Winner → Type 0
IsGovernor tie book id payload_type t None = candidates book id payload_type t ≡ []
IsGovernor tie book id payload_type t (Some w) = (e : Entry) × IsLeast (ranked_candidates tie book id payload_type t) e × (w ≡ winner_of e)

-- in every book
abbrev pub GovernsTheLeast : Type 0
GovernsTheLeast = (tie : Tie) (book : Book) (id : List ℕ) (payload_type : PayloadType) (t : ℤ) → IsGovernor tie book id payload_type t (governs tie book id payload_type t)

-- the entry is in the list, and goes before every other entry of it
abbrev pub IsBeforeOthers : List Entry → Entry → Type 0
IsBeforeOthers es e = In e es × ((f : Entry) → In f es → f ≢ e → goes_before e.rank f.rank ≡ true)

-- the winner of the candidate that goes before every other, or none where there is no candidate
abbrev pub IsTheGovernor : Tie → Book → List ℕ → PayloadType → ℤ → Option Winner → Type 0
IsTheGovernor tie book id payload_type t None = candidates book id payload_type t ≡ []
IsTheGovernor tie book id payload_type t (Some w) = (e : Entry) × IsBeforeOthers (ranked_candidates tie book id payload_type t) e × (w ≡ winner_of e)

-- in every whole book
abbrev pub GovernsBeforeOthers : Type 0
GovernsBeforeOthers =
    (tie : Tie) (book : Book) → IsWhole book → (id : List ℕ) (payload_type : PayloadType) (t : ℤ)
    → IsTheGovernor tie book id payload_type t (governs tie book id payload_type t)

-- a list of distinct marks has one least entry
abbrev pub LeastIsOne : Type 0
LeastIsOne = (es : List Entry) → IsDistinct same_mark es → (e f : Entry) → IsLeast es e → IsLeast es f → e ≡ f
