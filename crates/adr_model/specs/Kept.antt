-- What the machine of edits and publications keeps for one editor without readers.
use Rattle.std.specs.Prelude.{ℕ}
use Rattle.adr_model.specs.declared.entry.Tie.{Tie}
use Rattle.adr_model.specs.Book.{Book, empty}

-- the rule for ties, the version from which edits are counted, the objects now, and those of the last publication with
-- its number
pub record Kept : Type 0 where
  pub tie : Tie
  pub base : ℕ
  pub current : Book
  pub published : Book
  pub number : ℕ

-- no objects, published as number 0
abbrev pub kept_start : Tie → Kept
kept_start tie = record { tie = tie; base = 0; current = empty; published = empty; number = 0 }
