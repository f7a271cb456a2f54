-- A book with the edits that led to it.
use Rattle.std.specs.Prelude.{◌≡◌, ℕ, ◌+◌, ◌≤◌, List, ◌++◌, flat_map, length}
use Rattle.adr_value.specs.Limits.{limits}
use Rattle.adr_value.specs.declared.limits.TheConstants.{MOST_VERSION}
use Rattle.adr_object.specs.declared.object.Edit.{Edit}
use Rattle.adr_model.specs.Book.{Book}
use Rattle.adr_model.specs.Edits.{after_from, full_at}
use Rattle.adr_model.specs.Whole.{IsWhole}
use Rattle.adr_model.specs.Within.{IsWithin}

-- closed batches of edits and the open one
pub record Batches : Type 0 where
  pub closed : List (List Edit)
  pub pending : List Edit

-- the objects that the edits start from, those that they lead to, and the edits
pub record Ledger : Type 0 where
  pub base : Book
  pub objects : Book
  pub closed : List (List Edit)
  pub pending : List Edit

-- the edits of the closed batches, joined
abbrev pub closed_edits : List (List Edit) → List Edit
closed_edits closed = flat_map (λ batch. batch) closed

-- the edits of all batches, joined
abbrev pub joined : List (List Edit) → List Edit → List Edit
joined closed pending = closed_edits closed ++ pending

abbrev pub journal_of : Ledger → List Edit
journal_of book = joined book.closed book.pending

-- what the base and the closed batches lead to
abbrev pub sealed_of : Ledger → Book
sealed_of book = after_from book.base (closed_edits book.closed)

-- from a whole base within the limits the edits lead to the objects; as each was accepted, the version counts them, and is no
-- greater than that at which a book over this base is full
pub record Leads (base : Book) (edits : List Edit) (objects : Book) : Type 0 where
  pub whole : IsWhole base
  pub within : IsWithin limits MOST_VERSION base
  pub leads : after_from base edits ≡ objects
  pub counted : objects.version ≡ base.version + length edits
  pub room : objects.version ≤ full_at base.version
