-- What a contract sees of a publisher, and what it keeps.
use Rattle.std.specs.Prelude.{ℕ, ◌≡◌, ◌+◌, ◌≤◌, List}
use Rattle.logbook.specs.Pages.{Book as History}
use Rattle.adr_value.specs.declared.limits.TheConstants.{MOST_PUBLICATIONS}
use Rattle.adr_model.specs.declared.entry.Tie.{Tie}
use Rattle.adr_book.specs.Ledger.{Ledger, sealed_of}
use Rattle.adr_schedule.specs.Resolved.{Resolved}
use Rattle.adr_board.specs.declared.diary.DiaryEntry.{DiaryEntry}
use Rattle.adr_board.specs.History.{HasLast, published_by}
use Rattle.adr_board.specs.Publications.{opening_book, sealed}
use Rattle.adr_board.specs.Published.{PublishedBook}
use Rattle.adr_board.specs.Rules.{IsLast}
use Rattle.adr_board.specs.Types.{HasPrivateNames}

-- the rule for ties, the book of the desk, and the last publication
pub record Publishing : Type 0 where
  pub tie : Tie
  pub book : Ledger
  pub last : PublishedBook

-- what its desk is seen as
abbrev pub desk_of : Publishing → Resolved
desk_of p = record { tie = p.tie; book = p.book }

-- publication 0
abbrev pub opening_of : Tie → PublishedBook
opening_of tie = record { number = 0; tie = tie; book = opening_book }

-- the book as it is, sealed, under the next number
abbrev pub next_of : Publishing → PublishedBook
next_of p = record { number = p.last.number + 1; tie = p.tie; book = sealed p.book }

-- what goes on from there
abbrev pub gone_on : Publishing → Publishing
gone_on p = record p { book = sealed p.book; last = next_of p }

-- the closed batches lead to the last publication, which goes by the same rule for ties, its number is within the limit, and no private type in the
-- book has a name of the table
pub record FollowsLast (tie : Tie) (book : Ledger) (last : PublishedBook) : Type 0 where
  pub leads : last.book.objects ≡ sealed_of book
  pub rule : last.tie ≡ tie
  pub most : last.number ≤ MOST_PUBLICATIONS
  pub names : HasPrivateNames book.objects

-- what an editor's publisher published last is what readers are shown, and the last of the publications that they know and the editor's history
-- says, under the board's rule for ties; the last attempt that was shown had this place
pub record IsShownAs (tie : Tie) (history : History) (p : Publishing) (shown : PublishedBook) (published : List Ledger) (noted : History) (log : List DiaryEntry) (attempt : ℕ) : Type 0 where
  pub shown_is : p.last ≡ shown
  pub last : IsLast published p.last
  pub rule : p.tie ≡ tie
  pub history_is : noted ≡ history
  pub says : published_by log ≡ published
  pub numbered : HasLast log p.last.number attempt
