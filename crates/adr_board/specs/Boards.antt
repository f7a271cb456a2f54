-- What a contract sees of an editor and of a reader.
use Rattle.std.specs.Prelude.{◌≡◌, List, [], ◌∷◌, ◌++◌}
use mathlib.Core.List.{IsPrefix}
use Rattle.adr_model.specs.declared.entry.Tie.{Tie}
use Rattle.adr_book.specs.Ledger.{Ledger}
use Rattle.adr_schedule.specs.Resolved.{Resolved}
use Rattle.adr_board.specs.Publications.{opening_book, sealed}

-- the rule for ties, the book of the desk, and the books that were published so far
pub record Board : Type 0 where
  pub tie : Tie
  pub book : Ledger
  pub published : List Ledger

-- what its editor's desk is seen as
abbrev pub desk_of : Board → Resolved
desk_of b = record { tie = b.tie; book = b.book }

-- the board with its book sealed, and that book, with its base and all its batches, as one more publication
abbrev pub with_published : Board → Board
with_published b = record b { book = sealed b.book; published = b.published ++ sealed b.book ∷ [] }

-- the book that was published last
abbrev pub last_of : List Ledger → Ledger
last_of [] = opening_book
last_of (p ∷ []) = p
last_of (p ∷ q ∷ ps) = last_of (q ∷ ps)

-- the publications that a reader has seen, and those that it has learnt of
pub record View : Type 0 where
  pub seen : List Ledger
  pub learnt : List Ledger

-- a reader that knows of publication 0 alone
abbrev pub newcomer : View
newcomer = record { seen = opening_book ∷ []; learnt = opening_book ∷ [] }

-- what is seen afterwards begins with all that was seen, and with all that was learnt of
abbrev pub Grows : View → View → Type 0
Grows r s = IsPrefix r.seen s.seen × IsPrefix r.learnt s.seen × (s.learnt ≡ r.learnt)
