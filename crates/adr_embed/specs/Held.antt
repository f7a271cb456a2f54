-- What an editor and a reader hold.
use Rattle.std.specs.Prelude.{ℕ, List}
use Rattle.adr_model.specs.declared.entry.Tie.{Tie}
use Rattle.adr_model.specs.Book.{Book}
use Rattle.adr_model.specs.Kept.{Kept}
use Rattle.adr_board.specs.Publishers.{Publishing}

-- what the machine of edits and publications keeps of a publisher
abbrev pub kept_of : Publishing → Kept
kept_of p = record { tie = p.tie; base = p.book.base.version; current = p.book.objects; published = p.last.book.objects; number = p.last.number }

-- what an editor keeps, and its reply to the last line
pub record Edited : Type 0 where
  pub kept : Kept
  pub reply : List ℕ

-- a publication's number, rule for ties and objects, and the last answer from it
pub record Seen : Type 0 where
  pub number : ℕ
  pub tie : Tie
  pub book : Book
  pub reply : List ℕ
