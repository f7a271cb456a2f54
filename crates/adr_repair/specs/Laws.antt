-- The law of local repair, at every accepted edit of every whole book, and so of every book that edits leave of the empty one or of a base.
use Rattle.std.specs.Prelude.{◌≡◌, ◌↔◌, ℕ, ℤ, false, IsTrue, List, Ok, if◌then◌else◌}
use Rattle.adr_value.specs.Limits.{Limits}
use Rattle.adr_value.specs.declared.payload.PayloadType.{PayloadType}
use Rattle.adr_object.specs.declared.object.Edit.{Edit}
use Rattle.adr_model.specs.declared.entry.Tie.{Tie}
use Rattle.adr_model.specs.Book.{Book}
use Rattle.adr_model.specs.Edits.{step_by}
use Rattle.adr_model.specs.Governor.{candidates, governs, Disturbed}
use Rattle.adr_model.specs.Touches.{touches}
use Rattle.adr_model.specs.Whole.{IsWhole}
use Rattle.adr_repair.specs.Windows.{is_touched, windows_of, any_covers}

-- what holds of every accepted edit of every whole book, of each resource, payload type and instant, under any limits
-- and wherever the book is full
abbrev pub AtEachEdit : (Book → Book → List ℕ → PayloadType → ℤ → Type 0) → Type 0
AtEachEdit P =
    (l : Limits) (full : ℕ) (old new : Book) (edit : Edit) → IsWhole old → step_by l full old edit ≡ Ok new
    → (id : List ℕ) (payload_type : PayloadType) (t : ℤ) → P old new id payload_type t

-- where no window covers the instant, the candidates are the same
abbrev pub CandidatesStay : Book → Book → List ℕ → PayloadType → ℤ → Type 0
CandidatesStay old new id payload_type t = is_touched old new id payload_type t ≡ false → candidates old id payload_type t ≡ candidates new id payload_type t

-- and the same one governs, under either rule for ties
abbrev pub GovernorStays : Tie → Book → Book → List ℕ → PayloadType → ℤ → Type 0
GovernorStays tie old new id payload_type t = is_touched old new id payload_type t ≡ false → governs tie old id payload_type t ≡ governs tie new id payload_type t

-- the windows cover the disturbed instants and no others
abbrev pub WindowsAreDisturbed : Book → Book → List ℕ → PayloadType → ℤ → Type 0
WindowsAreDisturbed old new id payload_type t = IsTrue (is_touched old new id payload_type t) ↔ Disturbed old new id payload_type t

-- what governed before, repaired inside the windows alone, is what governs now
abbrev pub RepairsAll : Tie → Book → Book → List ℕ → PayloadType → ℤ → Type 0
RepairsAll tie old new id payload_type t =
    (if any_covers (windows_of id payload_type (touches old new)) t then governs tie new id payload_type t else governs tie old id payload_type t) ≡ governs tie new id payload_type t
