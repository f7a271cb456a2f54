-- Last elements.
use Rattle.std.proofs.Common.{◌≡◌, ℕ, List, [], ◌∷◌, ◌++◌, take, refl, ap, ◌∙◌}
use Rattle.adr_object.specs.declared.object.Edit.{Edit}
use Rattle.adr_book.specs.Ledger.{Ledger}
use Rattle.adr_board.specs.Publications.{EndsWith}
use Rattle.adr_board.specs.Boards.{last_of}
use Rattle.adr_board.specs.Published.{last_batch}

pub last_batch_snoc : (batches : List (List Edit)) (batch : List Edit) → last_batch (batches ++ batch ∷ []) ≡ batch
last_batch_snoc [] batch = refl
last_batch_snoc (b ∷ []) batch = refl
last_batch_snoc (b ∷ c ∷ cs) batch = last_batch_snoc (c ∷ cs) batch

last_of_snoc : (ps : List Ledger) (p : Ledger) → last_of (ps ++ p ∷ []) ≡ p
last_of_snoc [] p = refl
last_of_snoc (q ∷ []) p = refl
last_of_snoc (q ∷ r ∷ rs) p = last_of_snoc (r ∷ rs) p

-- the last publication is the one that they end with
pub last_is : (ps : List Ledger) (n : ℕ) (p : Ledger) → EndsWith ps n p → last_of ps ≡ p
last_is ps n p ends = ap last_of ends.last_is ∙ last_of_snoc (take n ps) p
