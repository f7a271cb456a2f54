-- The publications of a board, publication 0 first: of each the book that was published, with its base and its closed batches.
use Rattle.std.specs.Prelude.{◌≡◌, ℕ, ◌+◌, List, [], ◌∷◌, ◌++◌, length, map, take}
use mathlib.Core.List.{IsPrefix}
use Rattle.adr_model.specs.Book.{empty}
use Rattle.adr_model.specs.Laws.{AreLinked}
use Rattle.adr_model.specs.Machine.{Publication}
use Rattle.adr_book.specs.Ledger.{Ledger}
use Rattle.adr_board.specs.Published.{last_batch}

-- publication 0: no base, no objects and no batch
abbrev pub opening_book : Ledger
opening_book = record { base = empty; objects = empty; closed = []; pending = [] }

-- the book with its open batch closed, which is what a publication of it stores
abbrev pub sealed : Ledger → Ledger
sealed book = record book { closed = book.closed ++ book.pending ∷ []; pending = [] }

-- what a published book is to the machine: its objects, and the batch that was closed last
abbrev pub publication_in : Ledger → Publication
publication_in book = record { book = book.objects; batch = last_batch book.closed }

abbrev pub publications_in : List Ledger → List Publication
publications_in published = map publication_in published

-- number 0 is the empty book, each book's objects are what its last batch makes of those of the one before, and the last publication has this
-- number and is this book, with its base and its batches
pub record EndsWith (published : List Ledger) (number : ℕ) (last : Ledger) : Type 0 where
  pub opens : IsPrefix (opening_book ∷ []) published
  pub linked : AreLinked empty (publications_in published)
  pub numbered : length published ≡ number + 1
  pub last_is : published ≡ take number published ++ last ∷ []
