-- What every book of accepted edits keeps.
use Rattle.std.specs.Prelude.{◌≡◌, ◌≤◌, ℕ, true, eqb, List, map, IsOk, Ok}
use Rattle.std.specs.List.{IsDistinct}
use Rattle.std.specs.Str.{bytes_eq}
use Rattle.adr_value.specs.Limits.{Limits}
use Rattle.adr_object.specs.declared.party.Resource.{Resource}
use Rattle.adr_object.specs.declared.object.Kind.TheVariants.{Program as program_kind, Ven as ven_kind}
use Rattle.adr_object.specs.declared.object.Edit.{Edit}
use Rattle.adr_model.specs.declared.written.Written.{Written}
use Rattle.adr_model.specs.Layout.{layout}
use Rattle.adr_model.specs.Book.{Book}
use Rattle.adr_model.specs.Edits.{step_by, after, after_from, has_id}
use Rattle.adr_model.specs.Lists.{In}

abbrev pub event_ids : Book → List (List ℕ)
event_ids book = map (λ w. w.event.id) book.events

-- events have distinct ids and distinct numbers, none above the version
pub record IsSound (book : Book) : Type 0 where
  pub ids : IsDistinct bytes_eq (event_ids book)
  pub writes : IsDistinct eqb (map (λ w. w.written) book.events)
  pub numbers : (w : Written) → In w book.events → w.written ≤ book.version

-- all ids are distinct, what an object names is there, and every event can be laid out
pub record IsWhole (book : Book) : Type 0 where
  pub sound : IsSound book
  pub program_ids : IsDistinct bytes_eq (map (λ p. p.id) book.programs)
  pub ven_ids : IsDistinct bytes_eq (map (λ v. v.id) book.vens)
  pub resource_ids : IsDistinct bytes_eq (map (λ r. r.id) book.resources)
  pub programs : (w : Written) → In w book.events → has_id book program_kind w.event.program_id ≡ true
  pub vens : (r : Resource) → In r book.resources → has_id book ven_kind r.ven_id ≡ true
  pub layouts : (w : Written) → In w book.events → IsOk (layout w.event)

-- an accepted edit keeps a book whole, under any limits and wherever the book is full
abbrev pub StepsKeepWhole : Type 0
StepsKeepWhole = (l : Limits) (full : ℕ) (old new : Book) (edit : Edit) → IsWhole old → step_by l full old edit ≡ Ok new → IsWhole new

-- so what edits make of a whole book is whole
abbrev pub BooksStayWhole : Type 0
BooksStayWhole = (base : Book) (edits : List Edit) → IsWhole base → IsWhole (after_from base edits)

-- and every book of accepted edits is
abbrev pub BooksAreWhole : Type 0
BooksAreWhole = (edits : List Edit) → IsWhole (after edits)
