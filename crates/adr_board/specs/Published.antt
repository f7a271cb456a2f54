-- What a snapshot is seen as.
use Rattle.std.specs.Prelude.{◌≡◌, ℕ, List, [], ◌∷◌}
use Rattle.adr_object.specs.declared.object.Edit.{Edit}
use Rattle.adr_model.specs.declared.entry.Tie.{Tie}
use Rattle.adr_book.specs.Ledger.{Ledger}
use Rattle.adr_board.specs.Types.{HasPrivateNames}

-- the number of the publication, the rule for ties, and the book with its base and its closed batches
pub record PublishedBook : Type 0 where
  pub number : ℕ
  pub tie : Tie
  pub book : Ledger

-- no batch is open, and no event carries a private type under a name of the table
pub record IsPublished (book : Ledger) : Type 0 where
  pub sealed : book.pending ≡ []
  pub names : HasPrivateNames book.objects

-- the last of the closed batches, or no edits where there is none
abbrev pub last_batch : List (List Edit) → List Edit
last_batch [] = []
last_batch (b ∷ []) = b
last_batch (b ∷ (c ∷ batches)) = last_batch (c ∷ batches)
