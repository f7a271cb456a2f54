-- What the answers show of what governs.
use Rattle.std.specs.Prelude.{◌≡◌, ◌↔◌, ℕ, ℤ, IsTrue, List, is_some}
use Rattle.std.specs.List.{list_any}
use Rattle.adr_value.specs.Same.{same_type}
use Rattle.adr_value.specs.declared.payload.PayloadType.{PayloadType}
use Rattle.adr_model.specs.declared.entry.Tie.{Tie}
use Rattle.adr_model.specs.Answer.{shown}
use Rattle.adr_model.specs.Book.{Book}
use Rattle.adr_model.specs.Governor.{governs}
use Rattle.adr_model.specs.Queries.{governing_types}
use Rattle.adr_model.specs.Whole.{IsWhole}

-- something is shown exactly where something governs, in every whole book
abbrev pub GovernorsAreShown : Type 0
GovernorsAreShown =
    (tie : Tie) (book : Book) → IsWhole book → (id : List ℕ) (payload_type : PayloadType) (t : ℤ)
    → is_some (shown tie book id payload_type t) ≡ is_some (governs tie book id payload_type t)

-- a type is listed exactly where something of it governs the resource at some instant: an interval of no length lists nothing
abbrev pub TypesThatGovernAreListed : Type 0
TypesThatGovernAreListed =
    (tie : Tie) (book : Book) (id : List ℕ) (payload_type : PayloadType)
    → IsTrue (list_any (λ k. same_type k payload_type) (governing_types tie book id)) ↔ ((t : ℤ) × IsTrue (is_some (governs tie book id payload_type t)))
