-- The rule of a board over what its threads share, as a table of steps.
--
--   step                                      whose view becomes what
--   a reader's place is taken or given back   that reader's: publication 0; it ends
--   the swap in a publication                 the editor's: one publication longer
--   the enter in a look                       that reader's: the list whose last publication it sees
--   the leaving in a look                     none changes
--   an edit, a condense, a tell, a learn      none changes; they touch nothing that is shared
use Rattle.std.specs.Prelude.{◌≡◌, ℕ, ◌+◌, List, [], ◌∷◌, ◌++◌, Option, Result, IfOk, IfSome, MatchOption}
use Rattle.std.specs.Arc.{arc_value}
use Rattle.std.specs.declared.sync.Arc.{Arc}
use mathlib.Core.Option.{some}
use mathlib.Core.List.{IsPrefix}
use lib.ListN.{get_elem?}
use Rattle.logbook.specs.Pages.{Book as History}
use Rattle.adr_refusal.specs.declared.refusal.Refusal.{Refusal}
use Rattle.adr_model.specs.declared.entry.Tie.{Tie}
use Rattle.adr_model.specs.Edits.{after_from}
use Rattle.adr_book.specs.Ledger.{Ledger}
use Rattle.adr_board.specs.declared.diary.DiaryEntry.{DiaryEntry}
use Rattle.adr_board.specs.History.{EndsInAttempt}
use Rattle.adr_board.specs.Publications.{EndsWith}
use Rattle.adr_board.specs.Published.{PublishedBook, last_batch}
use Rattle.adr_board.specs.declared.shown.ShownPublication.{ShownPublication}
use Rattle.adr_board.specs.declared.shown.Showing.{Showing}

-- the snapshot is that of the last of these publications: it stores the book that was published, with its base and its batches
abbrev pub IsLast : List Ledger → PublishedBook → Type 0
IsLast published s = EndsWith published s.number s.book

-- the snapshot is that of the last of these publications, and goes by this rule for ties
abbrev pub IsLastBy : Tie → List Ledger → PublishedBook → Type 0
IsLastBy tie published s = IsLast published s × (s.tie ≡ tie)

-- these are the publications that the history says which is shown beside the snapshot, and it is that of this board
abbrev pub IsCarried : History → List Ledger → Showing → Type 0
IsCarried history published s = (s.page.book ≡ history) × EndsInAttempt published s.page.log s.snapshot.number s.attempt s.snapshot.book

-- what one of the two copies shows
abbrev pub showing : ShownPublication → Showing
showing x = record { snapshot = arc_value x.snapshot; attempt = x.attempt; page = x.page }

-- The rule: there is one list of publications, each of which follows from the one before. Its last is shown, under one rule for ties, with its
-- history, and what each thread has seen begins it
abbrev pub Keeps : Tie → History → ShownPublication → List (List Ledger) → Type 0
Keeps tie history x views =
    (published : List Ledger) × IsLastBy tie published (showing x).snapshot × IsCarried history published (showing x)
    × ((seat : ℕ) (v : List Ledger) → get_elem? views seat ≡ some v → IsPrefix v published)

-- A look: what is seen becomes a list whose last publication is the one shown. It begins with all that was seen
abbrev pub Looks : Tie → History → List Ledger → ShownPublication → ShownPublication → List Ledger → Type 0
Looks tie history v x y w = IsPrefix v w × IsLastBy tie w (showing y).snapshot × IsCarried history w (showing y)

-- A publication: what was seen, which is the whole list, gets what is shown now
abbrev pub Adds : List Ledger → ShownPublication → ShownPublication → List Ledger → Type 0
Adds v x y w = w ≡ v ++ (showing y).snapshot.book ∷ []

-- the list is that of all publications, of which s is the last, and t may be the next, under this rule for ties
abbrev pub MayFollow : Tie → History → List Ledger → Showing → Showing → Type 0
MayFollow tie history published s t =
    IsLast published s.snapshot × (t.snapshot.number ≡ s.snapshot.number + 1)
    × (t.snapshot.book.objects ≡ after_from s.snapshot.book.objects (last_batch t.snapshot.book.closed))
    × IsCarried history (published ++ t.snapshot.book ∷ []) t × (t.snapshot.tie ≡ tie)

-- a look at the last of these publications: the history, the number and the place of its attempt
abbrev pub IsSight : List Ledger → List DiaryEntry → ℕ → ℕ → Type 0
IsSight published log number attempt = (p : Ledger) × EndsInAttempt published log number attempt p

-- what a look takes is the last of these publications: the fresh copy of it, or where there is none the snapshot that its reader has
abbrev pub IsTaken : {Z : Type 0} → Tie → List Ledger → Option (Result PublishedBook Refusal) → Option (Arc PublishedBook Z) → Type 0
IsTaken tie published fresh own = MatchOption fresh (IfSome own (λ s. IsLastBy tie published (arc_value s))) (λ copy. IfOk copy (IsLastBy tie published))
