-- The history of attempts to publish, and the publications that it says, by their books.
use Rattle.std.specs.Prelude.{ℕ, suc, ◌≡◌, ◌+◌, ◌*◌, ◌⊎◌, Bool, true, false, List, [], ◌∷◌, ◌++◌, length, replicate}
use mathlib.Core.List.{IsPrefix}
use Rattle.logbook.specs.Pages.{Cell, Step, View, Book, Named, may_make}
use Rattle.adr_book.specs.Ledger.{Ledger}
use Rattle.adr_board.specs.declared.diary.DiaryEntry.{DiaryEntry}

-- ---- the entries, and the rule of the log

abbrev pub ended : Bool → Ledger → DiaryEntry
ended shown publication = record { shown = shown; publication = publication }

-- an attempt begins; the entry is like that of the end of one that was refused
abbrev pub begun : Ledger → DiaryEntry
begun publication = ended false publication

-- so many cells whose attempts have ended
abbrev pub closed_cells : ℕ → List Cell
closed_cells k = replicate k (0, true)

-- k attempts, all of which have ended
abbrev pub AllEnded : List Cell → List DiaryEntry → Type 0
AllEnded cells log = (k : ℕ) × (length log ≡ 2 * k) × (cells ≡ (2 * k, true) ∷ closed_cells (suc k))

-- one more has begun: who has the pen of its cell ends it
abbrev pub OneOpen : List Cell → List DiaryEntry → Type 0
OneOpen cells log = (k : ℕ) × (length log ≡ 2 * k + 1) × (cells ≡ (2 * k + 1, true) ∷ (closed_cells (suc k) ++ (0, false) ∷ []))

-- the rule: attempts follow one another, each begun and ended, but perhaps the last
abbrev pub IsKept : List Cell → List DiaryEntry → Type 0
IsKept cells log = AllEnded cells log ⊎ OneOpen cells log

-- the word that counts the entries
abbrev pub counter_of : Book → Named
counter_of b = record { tracked = true; key = 0; book = b }

-- the key of the cell of an attempt that began as the history got this length
abbrev pub IsCellAt : ℕ → ℕ → Type 0
IsCellAt key long = 2 * key ≡ long + 3

-- where the count was as expected, the attempt was added, with the right to end it
abbrev pub Begins : Step DiaryEntry → View DiaryEntry ℕ → ℕ → View DiaryEntry ℕ → Type 0
Begins s v found w = found ≡ s.old → (w.0 ≡ v.0 ++ s.ask ∷ []) × (w.1.0.right ≡ may_make) × IsCellAt w.1.0.key (length w.0)

-- the end was added
abbrev pub Ends : Step DiaryEntry → View DiaryEntry ℕ → ℕ → View DiaryEntry ℕ → Type 0
Ends s v found w = w.0 ≡ v.0 ++ s.ask ∷ []

-- ---- what a history says

abbrev pub put_if : Bool → Ledger → List Ledger → List Ledger
put_if true publication rest = publication ∷ rest
put_if false publication rest = rest

-- the publications: those whose attempts ended by being shown
abbrev pub published_by : List DiaryEntry → List Ledger
published_by [] = []
published_by (e ∷ es) = put_if e.shown e.publication (published_by es)

-- the same, with the attempt that the history ends with, for whoever sees that it was shown
abbrev pub seen_by : List DiaryEntry → List Ledger
seen_by [] = []
seen_by (e ∷ []) = e.publication ∷ []
seen_by (e ∷ f ∷ es) = put_if e.shown e.publication (seen_by (f ∷ es))

-- the history ends with the beginning of the attempt of this place; if it was shown, these are the publications, and the last has this number
pub record EndsInAttempt (published : List Ledger) (log : List DiaryEntry) (number attempt : ℕ) (publication : Ledger) : Type 0 where
  pub earlier : List DiaryEntry
  pub log_is : log ≡ earlier ++ begun publication ∷ []
  pub long : length earlier ≡ 2 * attempt
  pub list_is : published ≡ published_by earlier ++ publication ∷ []
  pub numbered : length published ≡ number + 1

-- the last publication that the history says has this number, and was the attempt of this place
pub record HasLast (log : List DiaryEntry) (number attempt : ℕ) : Type 0 where
  pub earlier : List DiaryEntry
  pub publication : Ledger
  pub begins : IsPrefix (earlier ++ begun publication ∷ []) log
  pub long : length earlier ≡ 2 * attempt
  pub list_is : published_by log ≡ published_by earlier ++ publication ∷ []
  pub numbered : length (published_by log) ≡ number + 1
