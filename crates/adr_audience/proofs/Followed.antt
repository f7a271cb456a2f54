-- What an accepted edit says of the objects that it names, and what the rows are after it, by place.
use Rattle.std.proofs.Common.{◌≡◌, ℕ, ◌<◌, ◌||◌, ◌++◌, Bool, true, false, not, nat_le, List, [], ◌∷◌, length, Option, Some, None, is_some, slice_get, set, remove, zero, suc, Result, Ok, Err, IsOk, OnOk, ap, sym, subst, ◌∙◌, arith, refl}
use Rattle.std.proofs.lemmas.Bool.{false≢true}
use Rattle.std.proofs.lemmas.List.{length-map}
use Rattle.adr_value.specs.declared.limits.TheConstants.{MOST_VERSION}
use Rattle.adr_refusal.specs.declared.refusal.Refusal.{Refusal}
use Rattle.adr_refusal.specs.declared.refusal.Refusal.TheVariants.{NotThere, InUse, Full}
use Rattle.adr_object.specs.Object.{kind_of, id_of}
use Rattle.adr_object.specs.declared.event.Event.{Event}
use Rattle.adr_object.specs.declared.object.Edit.{Edit}
use Rattle.adr_object.specs.declared.object.Edit.TheVariants.{Change, Remove}
use Rattle.adr_object.specs.declared.object.Kind.{Kind}
use Rattle.adr_object.specs.declared.object.Kind.TheVariants.{Event as event_kind, Resource as resource_kind}
use Rattle.adr_object.specs.declared.object.Object.{Object}
use Rattle.adr_object.specs.declared.object.Object.TheVariants.{Event as event_object, Resource as resource_object}
use Rattle.adr_object.specs.declared.party.Resource.{Resource}
use Rattle.adr_model.specs.declared.written.Written.{Written}
use Rattle.adr_model.specs.Book.{Book, resource_by, event_by}
use Rattle.adr_model.specs.Edits.{step, made, faults, fault_if, layout_faults, reference_faults, has_id, is_full_for, is_named}
use Rattle.adr_model.specs.Whole.{IsWhole}
use Rattle.adr_model.proofs.EditLemmas.{accepted}
use Rattle.adr_model.proofs.Keyed.{found}
use Rattle.adr_model.proofs.Steps.{no_fault, no_faults_before, no_faults_after}
use Rattle.adr_store.proofs.Accepted.{is_ok}
use Rattle.adr_audience.specs.Asks.{asked_in, asks_of}
use Rattle.adr_audience.specs.Rows.{offered_in, offers_of}
use Rattle.adr_audience.proofs.AskedEdits.{asks_of_changed, asks_of_removed}
use Rattle.adr_audience.proofs.Edited.{rows_of_changed, rows_of_removed}

-- ---- what an accepted edit says

is_true : (b : Bool) → not b ≡ false → b ≡ true
is_true true h = refl
is_true false h = absurd (false≢true (sym h))

-- an answer that is kept where one thing follows from another
pub on_ok : {P Q : Type 0} (r : Result (Unit {0}) Refusal) → (P → Q) → OnOk r P → OnOk r Q
on_ok (Ok v) f h = f h
on_ok (Err e) f h = h

-- what is there is not missing
pub not_missing : {X : Type 0} (o : Option X) → false ≡ is_some o → is_some o ≡ true → ⊥
not_missing o e h = false≢true (e ∙ h)

module _ (book : Book) where
  faultless : (edit : Edit) → IsOk (step book edit) → faults book edit ≡ []
  faultless edit h = let s = is_ok (step book edit) h in (accepted book s.0 edit s.1).0

  -- an object that changes is there
  pub changed_is_there : (o : Object) → IsOk (step book (Change o)) → has_id book (kind_of o) (id_of o) ≡ true
  changed_is_there o h =
      let full : List Refusal = fault_if (nat_le MOST_VERSION book.version || is_full_for book (Change o)) Full in
      let missing : List Refusal = fault_if (not (has_id book (kind_of o) (id_of o))) NotThere in
      is_true (has_id book (kind_of o) (id_of o))
      (no_fault (not (has_id book (kind_of o) (id_of o))) NotThere
      (no_faults_after (layout_faults o) missing (no_faults_before (layout_faults o ++ missing) (reference_faults book o) (no_faults_before ((layout_faults o ++ missing) ++ reference_faults book o) full (faultless (Change o) h)))))

  removed_faults : (kind : Kind) (id : List ℕ) → IsOk (step book (Remove kind id)) → fault_if (not (has_id book kind id)) NotThere ++ fault_if (is_named book kind id) InUse ≡ []
  removed_faults kind id h =
      no_faults_before (fault_if (not (has_id book kind id)) NotThere ++ fault_if (is_named book kind id) InUse) (fault_if (nat_le MOST_VERSION book.version) Full) (faultless (Remove kind id) h)

  -- an object that goes is there, and nothing names it
  pub removed_is_there : (kind : Kind) (id : List ℕ) → IsOk (step book (Remove kind id)) → has_id book kind id ≡ true
  removed_is_there kind id h =
      is_true (has_id book kind id) (no_fault (not (has_id book kind id)) NotThere (no_faults_before (fault_if (not (has_id book kind id)) NotThere) (fault_if (is_named book kind id) InUse) (removed_faults kind id h)))

  pub removed_is_free : (kind : Kind) (id : List ℕ) → IsOk (step book (Remove kind id)) → is_named book kind id ≡ false
  removed_is_free kind id h = no_fault (is_named book kind id) InUse (no_faults_after (fault_if (not (has_id book kind id)) NotThere) (fault_if (is_named book kind id) InUse) (removed_faults kind id h))

-- ---- places

within : {X : Type 0} (xs : List X) (place : ℕ) (o : Option X) → slice_get xs place ≡ o → is_some o ≡ true → place < length xs
within [] place o e h = absurd (false≢true (ap is_some e ∙ h))
within (x ∷ xs) zero o e h = omega arith
within (x ∷ xs) (suc place) o e h = let l = within xs place o e h in omega arith

-- a place of the book is one of its rows
pub row_of_resource : (book : Book) (place : ℕ) (o : Option Resource) → slice_get book.resources place ≡ o → is_some o ≡ true → place < length (offers_of book)
row_of_resource book place o e h = let l = within book.resources place o e h in omega (arith, l, length-map book.resources (offered_in book))

pub row_of_event : (book : Book) (place : ℕ) (o : Option Written) → slice_get book.events place ≡ o → is_some o ≡ true → place < length (asks_of book)
row_of_event book place o e h = let l = within book.events place o e h in omega (arith, l, length-map book.events (λ w. asked_in book w.event))

-- ---- the rows after an edit of the object at a place

module _ (book : Book) (place : ℕ) (whole : IsWhole book) where
  pub rows_changed : (new : Resource) → slice_get book.resources place ≡ resource_by book new.id → is_some (resource_by book new.id) ≡ true
      → offers_of (made book (Change (resource_object new))) ≡ set (offers_of book) place (offered_in book new)
  rows_changed new at there = by (resource_by book new.id) refl there
    where
      by : (o : Option Resource) → resource_by book new.id ≡ o → is_some o ≡ true → offers_of (made book (Change (resource_object new))) ≡ set (offers_of book) place (offered_in book new)
      by None e h = absurd (false≢true h)
      by (Some old) e h = rows_of_changed book place old new whole.resource_ids (at ∙ e) (found (λ (r : Resource). r.id) new.id book.resources old e).1

  pub rows_removed : (id : List ℕ) → slice_get book.resources place ≡ resource_by book id → is_some (resource_by book id) ≡ true
      → offers_of (made book (Remove resource_kind id)) ≡ remove (offers_of book) place
  rows_removed id at there = by (resource_by book id) refl there
    where
      by : (o : Option Resource) → resource_by book id ≡ o → is_some o ≡ true → offers_of (made book (Remove resource_kind id)) ≡ remove (offers_of book) place
      by None e h = absurd (false≢true h)
      by (Some old) e h =
          subst (λ i. offers_of (made book (Remove resource_kind i)) ≡ remove (offers_of book) place) (found (λ (r : Resource). r.id) id book.resources old e).1
          (rows_of_removed book place old whole.resource_ids (at ∙ e))

  pub asks_changed : (new : Event) → slice_get book.events place ≡ event_by book new.id → is_some (event_by book new.id) ≡ true
      → asks_of (made book (Change (event_object new))) ≡ set (asks_of book) place (asked_in book new)
  asks_changed new at there = by (event_by book new.id) refl there
    where
      by : (o : Option Written) → event_by book new.id ≡ o → is_some o ≡ true → asks_of (made book (Change (event_object new))) ≡ set (asks_of book) place (asked_in book new)
      by None e h = absurd (false≢true h)
      by (Some old) e h = asks_of_changed book place old new whole.sound.ids (at ∙ e) (found (λ (w : Written). w.event.id) new.id book.events old e).1

  pub asks_removed : (id : List ℕ) → slice_get book.events place ≡ event_by book id → is_some (event_by book id) ≡ true
      → asks_of (made book (Remove event_kind id)) ≡ remove (asks_of book) place
  asks_removed id at there = by (event_by book id) refl there
    where
      by : (o : Option Written) → event_by book id ≡ o → is_some o ≡ true → asks_of (made book (Remove event_kind id)) ≡ remove (asks_of book) place
      by None e h = absurd (false≢true h)
      by (Some old) e h =
          subst (λ i. asks_of (made book (Remove event_kind i)) ≡ remove (asks_of book) place) (found (λ (w : Written). w.event.id) id book.events old e).1
          (asks_of_removed book place old whole.sound.ids (at ∙ e))
