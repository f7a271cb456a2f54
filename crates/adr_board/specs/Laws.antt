-- What a run of steps shows, in the words of its edits.
use Rattle.std.specs.Prelude.{◌≡◌, ◌⊎◌, ℕ, ℤ, List, [], ◌∷◌, ◌++◌, length, take, slice_get, Some}
use Rattle.std.specs.Global.{Global}
use Rattle.std.specs.Arc.{arc_value}
use Rattle.std.specs.declared.sync.Arc.{Arc}
use Rattle.adr_value.specs.declared.payload.PayloadType.{PayloadType}
use Rattle.adr_object.specs.declared.object.Edit.{Edit as AnyEdit}
use Rattle.adr_model.specs.declared.entry.Tie.{Tie}
use Rattle.adr_model.specs.Edits.{after}
use Rattle.adr_model.specs.Governor.{governs}
use Rattle.adr_model.specs.Machine.{State, book_of, start}
use Rattle.adr_book.specs.Ledger.{sealed_of}
use Rattle.adr_model.specs.declared.published.Published.{Published as Numbered}
use Rattle.adr_board.specs.declared.run_steps.Step.{Step}
use Rattle.adr_board.specs.declared.run_steps.Step.TheVariants.{Edit}
use Rattle.adr_board.specs.declared.run_steps.Shown.{Shown}
use Rattle.adr_board.specs.declared.run_steps.Shown.TheVariants.{Done, Published, Seen}
use Rattle.adr_board.specs.Published.{PublishedBook}
use Rattle.adr_board.specs.Replay.{IsRun}

-- the edit of a step, where it was accepted
abbrev pub accepted_edit : Step → Shown → List AnyEdit
accepted_edit (Edit x) (Done version) = x ∷ []
accepted_edit _ _ = []

-- the accepted edits of steps, by what they showed
abbrev pub accepted_edits : List Step → List Shown → List AnyEdit
accepted_edits (step ∷ steps) (x ∷ shown) = accepted_edit step x ++ accepted_edits steps shown
accepted_edits _ _ = []

-- these are the accepted edits up to the publication of a number: of number 0 none, of any other those before the step that showed it
abbrev pub AreEditsUpTo : ℕ → List Step → List Shown → List AnyEdit → Type 0
AreEditsUpTo number steps shown edits =
    ((number ≡ 0) × (edits ≡ []))
    ⊎ ((place : ℕ) × (p : Numbered) × (slice_get shown place ≡ Some (Published p)) × (p.number ≡ number) × (edits ≡ accepted_edits (take place steps) (take place shown)))

-- A snapshot tells what these edits leave of the empty book, under this rule for ties: its objects are that, whatever was condensed, and so is what
-- the base and the batches that it stores lead to; its version is the number of the edits; and what governs by its rule and its objects, which is
-- what its timelines show, is what governs there.
pub record TellsOf (tie : Tie) (edits : List AnyEdit) (s : PublishedBook) : Type 0 where
  pub objects : s.book.objects ≡ after edits
  pub journal : sealed_of s.book ≡ after edits
  pub version : s.book.objects.version ≡ length edits
  pub governed : (id : List ℕ) (payload_type : PayloadType) (t : ℤ) → governs s.tie s.book.objects id payload_type t ≡ governs tie (after edits) id payload_type t

-- In every run a snapshot that is seen is that of a publication that an earlier step made, or of number 0, and tells of the accepted edits up to that.
abbrev pub SnapshotsTellOfTheirEdits : Type 0
SnapshotsTellOfTheirEdits =
    (tie : Tie) (readers : ℕ) (steps : List Step) (shown : List Shown) (end : State) → IsRun (start tie readers) steps shown end
    → (place : ℕ) (snapshot : Arc PublishedBook Global) → slice_get shown place ≡ Some (Seen snapshot)
    → (edits : List AnyEdit) × AreEditsUpTo (arc_value snapshot).number (take place steps) (take place shown) edits × TellsOf tie edits (arc_value snapshot)

-- In every run a publication has the objects that all accepted edits before its step leave of the empty book, to the end, whatever is condensed, and
-- its version is their number.
abbrev pub PublicationsHaveAllEdits : Type 0
PublicationsHaveAllEdits =
    (tie : Tie) (readers : ℕ) (steps : List Step) (shown : List Shown) (end : State) → IsRun (start tie readers) steps shown end
    → (place : ℕ) (p : Numbered) → slice_get shown place ≡ Some (Published p)
    → (book_of end p.number ≡ after (accepted_edits (take place steps) (take place shown)))
    × (p.version ≡ length (accepted_edits (take place steps) (take place shown)))
