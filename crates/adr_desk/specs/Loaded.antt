-- What edits make of a book, one after the other, and what is answered to each.
use Rattle.std.specs.Prelude.{ℕ, List, [], ◌∷◌, Result, Ok, Err}
use Rattle.adr_refusal.specs.Answer.{result_map}
use Rattle.adr_refusal.specs.declared.refusal.Refusal.{Refusal}
use Rattle.adr_object.specs.declared.object.Edit.{Edit}
use Rattle.adr_model.specs.Book.{Book}
use Rattle.adr_model.specs.Edits.{step_to}

-- the book that an answer leaves: a refused edit changes nothing
abbrev pub left_by : Book → Result Book Refusal → Book
left_by book (Ok after) = after
left_by book (Err fault) = book

-- the objects after the edits, where the book is full at a version
abbrev pub objects_after : ℕ → Book → List Edit → Book
objects_after full book [] = book
objects_after full book (edit ∷ edits) = objects_after full (left_by book (step_to full book edit)) edits

-- the version after each edit, or why it is refused
abbrev pub answers_to : ℕ → Book → List Edit → List (Result ℕ Refusal)
answers_to full book [] = []
answers_to full book (edit ∷ edits) =
    result_map (λ b. b.version) (step_to full book edit) ∷ answers_to full (left_by book (step_to full book edit)) edits

-- the edit, where it is accepted
abbrev pub if_accepted : Edit → Result Book Refusal → List Edit → List Edit
if_accepted edit (Ok after) edits = edit ∷ edits
if_accepted edit (Err fault) edits = edits

-- the accepted ones of the edits
abbrev pub accepted_of : ℕ → Book → List Edit → List Edit
accepted_of full book [] = []
accepted_of full book (edit ∷ edits) = if_accepted edit (step_to full book edit) (accepted_of full (left_by book (step_to full book edit)) edits)
