-- The machine of one editor and many readers.
use Rattle.std.specs.Prelude.{◌≡◌, ℕ, ◌-◌, ◌≤◌, ◌<◌, max, List, [], ◌∷◌, ◌++◌, length, replicate, Result, Ok, Err, slice_index, get_or, slice_set, if◌then◌else◌, nat_lt}
use Rattle.adr_value.specs.declared.limits.TheConstants.{MOST_PUBLICATIONS}
use Rattle.adr_refusal.specs.declared.refusal.Refusal.{Refusal}
use Rattle.adr_refusal.specs.declared.refusal.Refusal.TheVariants.{Full}
use Rattle.adr_object.specs.declared.object.Edit.{Edit}
use Rattle.adr_model.specs.declared.entry.Tie.{Tie}
use Rattle.adr_model.specs.Book.{Book, empty}
use Rattle.adr_model.specs.Edits.{full_at, step_to}

-- what was published: the book, and its batch, the accepted edits since the publication before
pub record Publication : Type 0 where
  pub book : Book
  pub batch : List Edit

-- publication 0: the empty book
abbrev pub opening : Publication
opening = record { book = empty; batch = [] }

-- the rule for ties; the version from which accepted edits are counted; the book as it stands; what was published so
-- far; the accepted edits since; and for each reader the least number that it may still see
pub record State : Type 0 where
  pub tie : Tie
  pub base : ℕ
  pub current : Book
  pub published : List Publication
  pub pending : List Edit
  pub seen : List ℕ

-- with a number of readers
abbrev pub start : Tie → ℕ → State
start tie readers = record { tie = tie; base = 0; current = empty; published = opening ∷ []; pending = []; seen = replicate readers 0 }

abbrev pub last_number : State → ℕ
last_number s = length s.published - 1

-- the book of a publication, by its number
abbrev pub book_of : State → ℕ → Book
book_of s number = (get_or s.published number opening).book

abbrev pub last_book : State → Book
last_book s = book_of s (last_number s)

pub data Action : Type 0 where
  edit : Edit → Action
  publish : Action
  condense : Action
  tell : ℕ → ℕ → Action
  look : ℕ → Action

pub data Reply : Type 0 where
  refused : Refusal → Reply
  done : ℕ → Reply
  published : ℕ → ℕ → Reply
  condensed : ℕ → Reply
  told : Reply
  seen : ℕ → Reply

-- the reply and the next state of an edit, by what the book answers
abbrev pub after_edit : State → Edit → Result Book Refusal → Reply × State
after_edit s x (Ok book) = (done book.version, record s { current = book; pending = s.pending ++ x ∷ [] })
after_edit s x (Err fault) = (refused fault, s)

abbrev pub after_publish : State → Reply × State
after_publish s =
    if nat_lt (last_number s) MOST_PUBLICATIONS
    then (
      published (length s.published) s.current.version,
      record s { published = s.published ++ record { book = s.current; batch = s.pending } ∷ []; pending = [] },
    )
    else (refused Full, s)

-- the last publication becomes the base
abbrev pub after_condense : State → Reply × State
after_condense s = (condensed (last_book s).version, record s { base = (last_book s).version })

-- the action may take the state to the reply and the next state
abbrev pub Steps : State → Action → Reply × State → Type 0
Steps s (edit x) next = next ≡ after_edit s x (step_to (full_at s.base) s.current x)
Steps s publish next = next ≡ after_publish s
Steps s condense next = next ≡ after_condense s
Steps s (tell i k) next =
    (i < length s.seen) × (k ≤ last_number s) × (next ≡ (told, record s { seen = slice_set s.seen i (max (slice_index s.seen i) k) }))
Steps s (look i) next =
    (k : ℕ) × (i < length s.seen) × (slice_index s.seen i ≤ k) × (k ≤ last_number s) × (next ≡ (seen k, record s { seen = slice_set s.seen i k }))
