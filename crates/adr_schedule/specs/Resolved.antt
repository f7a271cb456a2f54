-- A book, and timelines that show what governs.
use Rattle.adr_model.specs.declared.entry.Tie.{Tie}
use Rattle.adr_book.specs.Ledger.{Ledger}

-- what a resolution is seen as: the rule for ties, and the book
pub record Resolved : Type 0 where
  pub tie : Tie
  pub book : Ledger
