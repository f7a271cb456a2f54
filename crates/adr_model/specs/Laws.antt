-- What follows from the definitions: the laws of the model.
use Rattle.std.specs.Prelude.{◌≡◌, ◌↔◌, ℕ, ◌+◌, ◌≤◌, ◌<◌, take, ℤ, ◌≤ℤ◌, ◌<ℤ◌, int_le, int_lt, ◌&&◌, true, ⊤, IsTrue, List, [], ◌∷◌, ◌++◌, flat_map, length, is_some, codes, Ok, Err, slice_index}
use Rattle.std.specs.List.{AllByRecursion, list_any}
use Rattle.std.specs.Fmt.{decimal}
use Rattle.std.specs.Ordering.{int_eq}
use Rattle.adr_value.specs.declared.payload.PayloadType.{PayloadType}
use Rattle.adr_refusal.specs.declared.refusal.Refusal.{Refusal}
use Rattle.adr_object.specs.declared.event.Interval.{Interval}
use Rattle.adr_object.specs.declared.event.Payload.{Payload}
use Rattle.adr_object.specs.declared.object.Edit.{Edit}
use Rattle.adr_model.specs.declared.entry.Tie.{Tie}
use Rattle.adr_model.specs.Answer.{IsUntil, at, until}
use Rattle.adr_model.specs.Rank.{carries}
use Rattle.adr_model.specs.Book.{Book, empty, resource_by}
use Rattle.adr_model.specs.Edits.{after, after_from, distinct_types, full_at, step, step_to}
use Rattle.adr_model.specs.Governor.{governs}
use Rattle.adr_model.specs.Machine.{Action, Publication, Reply, State, Steps, book_of, last_book, last_number, look, seen, start}
use Rattle.adr_model.specs.Queries.{beginnings, begins, end_within, in_lines, is_governed, roll, roll_line}

-- ---- edits

-- a refused edit changes nothing
abbrev pub RefusedEditsChangeNothing : Type 0
RefusedEditsChangeNothing = (edits : List Edit) (x : Edit) (fault : Refusal) → step (after edits) x ≡ Err fault → after (edits ++ x ∷ []) ≡ after edits

-- an accepted one makes the version one more, and was made below the version at which the book is full
abbrev pub AcceptedEditsCount : Type 0
AcceptedEditsCount =
    (full : ℕ) (old new : Book) (x : Edit) → step_to full old x ≡ Ok new → (new.version ≡ old.version + 1) × (old.version < full)

-- what is accepted below one version does the same where the book is full later, or with no base at all
abbrev pub BasesOnlyRefuse : Type 0
BasesOnlyRefuse = (base : ℕ) (old new : Book) (x : Edit) → step_to (full_at base) old x ≡ Ok new → step old x ≡ Ok new

-- the book after a journal and more is what those more edits make of the book after the journal
abbrev pub JournalsGoOn : Type 0
JournalsGoOn = (book : Book) (edits more : List Edit) → after_from book (edits ++ more) ≡ after_from (after_from book edits) more

-- no version is above the number of edits
abbrev pub VersionsAreEdits : Type 0
VersionsAreEdits = (edits : List Edit) → (after edits).version ≤ length edits

-- a further payload of a type that the interval has makes no further entry
abbrev pub RepeatsAreOneEntry : Type 0
RepeatsAreOneEntry =
    (i : Interval) (p : Payload) → carries i p.kind ≡ true
    → ((payload_type : PayloadType) → carries (record i { payloads = p ∷ i.payloads }) payload_type ≡ carries i payload_type)
    × (distinct_types (p ∷ i.payloads) ≡ distinct_types i.payloads)

-- ---- answers

-- `until` is later than the asked instant, nothing changes before it, and there something does
abbrev pub UntilIsTheNextChange : Type 0
UntilIsTheNextChange = (tie : Tie) (book : Book) (id : List ℕ) (payload_type : PayloadType) (t : ℤ) → IsUntil (λ u. governs tie book id payload_type u) t (until tie book id payload_type t)

-- the lines of a list begin at each instant of the window that is governed and is the first or differs from the one before, and at no other
abbrev pub SegmentsBeginAtChanges : Type 0
SegmentsBeginAtChanges =
    (tie : Tie) (book : Book) (id : List ℕ) (payload_type : PayloadType) (from to u : ℤ)
    → list_any (int_eq u) (beginnings tie book id payload_type from to) ≡ (int_le from u && (int_lt u to && begins tie book id payload_type from u))

-- each instant is before those that follow it
abbrev pub IsAscending : List ℤ → Type 0
IsAscending [] = ⊤
IsAscending (t ∷ ts) = AllByRecursion (λ u. t <ℤ u) ts × IsAscending ts

-- and they stand in order
abbrev pub SegmentsAreInOrder : Type 0
SegmentsAreInOrder = (tie : Tie) (book : Book) (id : List ℕ) (payload_type : PayloadType) (from to : ℤ) → IsAscending (beginnings tie book id payload_type from to)

-- from where a line begins to where it ends one winner governs
abbrev pub SegmentsShowOne : Type 0
SegmentsShowOne =
    (tie : Tie) (book : Book) (id : List ℕ) (payload_type : PayloadType) (to u v : ℤ)
    → u ≤ℤ v → v <ℤ end_within to (until tie book id payload_type u) → governs tie book id payload_type v ≡ governs tie book id payload_type u

-- each governed instant of the window lies on a line
abbrev pub SegmentsCoverAll : Type 0
SegmentsCoverAll =
    (tie : Tie) (book : Book) (id : List ℕ) (payload_type : PayloadType) (from to v : ℤ) → from ≤ℤ v → v <ℤ to → is_some (governs tie book id payload_type v) ≡ true
    → (u : ℤ) × (list_any (int_eq u) (beginnings tie book id payload_type from to) ≡ true) × (u ≤ℤ v) × (v <ℤ end_within to (until tie book id payload_type u))

-- and on no two: a line ends before the next one begins, or where it does
abbrev pub SegmentsAreApart : Type 0
SegmentsAreApart =
    (tie : Tie) (book : Book) (id : List ℕ) (payload_type : PayloadType) (from to u w : ℤ)
    → list_any (int_eq u) (beginnings tie book id payload_type from to) ≡ true → list_any (int_eq w) (beginnings tie book id payload_type from to) ≡ true
    → u <ℤ w → end_within to (until tie book id payload_type u) ≤ℤ w

-- a type is listed just where something of it governs at some instant
abbrev pub TypesGovernSometime : Type 0
TypesGovernSometime =
    (tie : Tie) (book : Book) (id : List ℕ) (payload_type : PayloadType)
    → IsTrue (is_governed tie book id payload_type) ↔ ((t : ℤ) × IsTrue (is_some (governs tie book id payload_type t)))

-- `roll` has a line for each resource, in order of creation
abbrev pub RollTellsEach : Type 0
RollTellsEach =
    (tie : Tie) (book : Book) (payload_type : PayloadType) (t : ℤ) → roll tie book payload_type t ≡ Ok (in_lines book (flat_map (λ r. roll_line tie book payload_type t r.id) book.resources))

-- which says of it what `at` answers
abbrev pub RollTellsWhatAtTells : Type 0
RollTellsWhatAtTells =
    (tie : Tie) (book : Book) (payload_type : PayloadType) (t : ℤ) (id : List ℕ) → is_some (resource_by book id) ≡ true
    → (state : List ℕ)
    × (roll_line tie book payload_type t id ≡ id ++ codes " " ++ state ++ codes "\n")
    × (at tie book id payload_type t ≡ Ok (codes "version " ++ decimal book.version ++ codes " " ++ state ++ codes "\n"))

-- ---- the machine

-- the actions, one after the other, may take the one state to the other
abbrev pub Runs : State → List Action → State → Type 0
Runs s [] t = s ≡ t
Runs s (a ∷ actions) t = (reply : Reply) × (next : State) × Steps s a (reply, next) × Runs next actions t

-- no reader's seen number falls
abbrev pub SeenNeverFalls : Type 0
SeenNeverFalls = (s t : State) (actions : List Action) → Runs s actions t → (i : ℕ) → slice_index s.seen i ≤ slice_index t.seen i

-- a look shows a publication that is no earlier than what its reader had seen or been told before, and no later than the last
abbrev pub LooksShowNoEarlier : Type 0
LooksShowNoEarlier =
    (s m t : State) (actions : List Action) (i k : ℕ) → Runs s actions m → Steps m (look i) (seen k, t)
    → (slice_index s.seen i ≤ k) × (k ≤ last_number m)

abbrev pub IsPrefix : {X : Type 0} → List X → List X → Type 0
IsPrefix {X = X} xs ys = (rest : List X) × (ys ≡ xs ++ rest)

-- publications stay, and further ones go last
abbrev pub PublicationsStay : Type 0
PublicationsStay = (s t : State) (actions : List Action) → Runs s actions t → IsPrefix s.published t.published

-- each book is what its batch makes of the one before
abbrev pub AreLinked : Book → List Publication → Type 0
AreLinked book [] = ⊤
AreLinked book (p ∷ ps) = (p.book ≡ after_from book p.batch) × AreLinked p.book ps

-- in every state that is reached from a start: of the publications, and of the book as it stands
abbrev pub PublicationsFollow : Type 0
PublicationsFollow =
    (tie : Tie) (readers : ℕ) (t : State) (actions : List Action) → Runs (start tie readers) actions t
    → AreLinked empty t.published × (t.current ≡ after_from (last_book t) t.pending)

-- the accepted edits up to a publication: its batch and those before it, joined
abbrev pub edits_up_to : State → ℕ → List Edit
edits_up_to s number = flat_map (λ p. p.batch) (take (number + 1) s.published)

-- and up to now
abbrev pub all_edits : State → List Edit
all_edits s = flat_map (λ p. p.batch) s.published ++ s.pending

-- a publication is what all the edits up to it leave of the empty book, whatever was condensed
abbrev pub PublicationsAreTheirEdits : Type 0
PublicationsAreTheirEdits =
    (tie : Tie) (readers : ℕ) (t : State) (actions : List Action) → Runs (start tie readers) actions t
    → ((number : ℕ) → number ≤ last_number t → book_of t number ≡ after (edits_up_to t number)) × (t.current ≡ after (all_edits t))

-- and its version is their number
abbrev pub VersionsCountEdits : Type 0
VersionsCountEdits =
    (tie : Tie) (readers : ℕ) (t : State) (actions : List Action) → Runs (start tie readers) actions t
    → ((number : ℕ) → number ≤ last_number t → (book_of t number).version ≡ length (edits_up_to t number))
    × (t.current.version ≡ length (all_edits t))

-- no reader has seen a number above the last
abbrev pub ReadersStayBehind : Type 0
ReadersStayBehind =
    (tie : Tie) (readers : ℕ) (t : State) (actions : List Action) → Runs (start tie readers) actions t
    → (i : ℕ) → slice_index t.seen i ≤ last_number t
