-- What an edit of a program does to the seating.
use Rattle.std.specs.Prelude.{◌≡◌, ◌<◌, ◌≤◌, ℕ, Bool, true, false, List, get_or, length, Some, slice_get}
use Rattle.adr_object.specs.declared.object.Object.TheVariants.{Program as program}
use Rattle.adr_object.specs.declared.object.Edit.TheVariants.{Change}
use Rattle.adr_object.specs.declared.party.Program.{Program as OneProgram}
use Rattle.adr_object.specs.declared.party.Resource.{Resource}
use Rattle.adr_model.specs.declared.written.Written.{Written}
use Rattle.adr_model.specs.Book.{Book}
use Rattle.adr_model.specs.Edits.{made}
use Rattle.adr_model.specs.Governor.{applies_to}
use Rattle.adr_schedule.specs.Moves.{is_among}
use Rattle.adr_regroup.specs.Compared.{StandOnce}

-- the book after the change of the program
abbrev pub with_program : Book → OneProgram → Book
with_program book p = made book (Change (program p))

-- places are marked: one that is not was not before, and is among the places just where it is among the rest of them
pub record IsMarking (was marks : List Bool) (places rest : List ℕ) : Type 0 where
  pub count : length marks ≡ length was
  pub left : (p : ℕ) → p < length was → get_or marks p false ≡ false → (get_or was p false ≡ false) × (is_among places p ≡ is_among rest p)

-- to the resource of a place that is not marked the events before that one apply in the new book just where they do in the old one
pub record AreMarked (old new : Book) (reached : ℕ) (marks : List Bool) : Type 0 where
  pub count : length marks ≡ length old.resources
  pub same : (p i : ℕ) (r : Resource) (w : Written) → slice_get old.resources p ≡ Some r → slice_get old.events i ≡ Some w → i < reached
      → get_or marks p false ≡ false → applies_to new r w ≡ applies_to old r w

-- of the places before that one these are marked
pub record AreThoseMarked (marks : List Bool) (reached : ℕ) (places : List ℕ) : Type 0 where
  pub are : (p : ℕ) → p < reached → is_among places p ≡ get_or marks p false
  pub before : (p : ℕ) → is_among places p ≡ true → p < reached
  pub few : length places ≤ reached
  pub once : StandOnce places reached
