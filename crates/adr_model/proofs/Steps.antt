-- An accepted edit keeps the book sound, and the new book succeeds the old one.
use Rattle.std.proofs.Common.{◌≡◌, ℕ, ◌+◌, ◌≤◌, ◌||◌, nat_le, Bool, true, false, List, [], ◌∷◌, ◌++◌, is_some, refl, ap, sym, subst, ◌∙◌, Result, Ok, Err, fold}
use Rattle.std.specs.List.{IsDistinct}
use Rattle.std.specs.Result.{result_unwrap_or}
use Rattle.adr_refusal.specs.declared.refusal.Refusal.{Refusal}
use Rattle.adr_refusal.specs.declared.refusal.Refusal.TheVariants.{Exists, Full}
use Rattle.adr_object.specs.declared.event.Event.{Event}
use Rattle.adr_object.specs.declared.object.Object.TheVariants.{Program as program, Event as event, Ven as ven, Resource as resource}
use Rattle.adr_object.specs.declared.object.Kind.TheVariants.{Program as program_kind, Event as event_kind, Ven as ven_kind, Resource as resource_kind}
use Rattle.adr_object.specs.declared.object.Edit.{Edit}
use Rattle.adr_object.specs.declared.object.Edit.TheVariants.{Create, Change, Remove}
use Rattle.adr_model.specs.Book.{Book, empty, event_by}
use Rattle.adr_model.proofs.EditLemmas.{accepted_by}
use Rattle.adr_model.specs.Edits.{step, step_by, after, faults_by, edited, fault_if, layout_faults, reference_faults, is_full_for_by, after_from}
use Rattle.adr_value.specs.Limits.{Limits, limits}
use Rattle.adr_value.specs.declared.limits.TheConstants.{MOST_VERSION}
use Rattle.adr_model.specs.Whole.{IsSound}
use Rattle.adr_model.proofs.Keyed.{event_id, is_found}
use Rattle.adr_model.proofs.Succession.{Succeeds}
use Rattle.adr_model.proofs.Events.{Kept, unchanged, one_more, one_again, one_less}

-- ---- no faults

pub no_fault : (b : Bool) (f : Refusal) → fault_if b f ≡ [] → b ≡ false
no_fault true f h = absurd (cc)
no_fault false f h = refl

pub no_faults_before : (xs ys : List Refusal) → xs ++ ys ≡ [] → xs ≡ []
no_faults_before [] ys h = refl
no_faults_before (x ∷ xs) ys h = absurd (cc)

pub no_faults_after : (xs ys : List Refusal) → xs ++ ys ≡ [] → ys ≡ []
no_faults_after [] ys h = h
no_faults_after (x ∷ xs) ys h = absurd (cc)

-- ---- an accepted edit

abbrev KeptBy : Book → Book → Type 0
KeptBy old new = Kept old.version old.events new.events × (new.version ≡ old.version + 1)

-- under any limits, and wherever the book is full
module _ (most : Limits) (full : ℕ) where
  -- an event that may be created is not there yet
  created_absent : (old : Book) (e : Event) → faults_by most full old (Create (event e)) ≡ [] → is_some (event_by old e.id) ≡ false
  created_absent old e f =
      let exists : List Refusal = fault_if (is_some (event_by old e.id)) Exists in
      let no_room : List Refusal = fault_if (nat_le full old.version || is_full_for_by most old (Create (event e))) Full in
      let first_three = no_faults_before ((layout_faults (event e) ++ exists) ++ reference_faults old (event e)) no_room f in
      let first_two = no_faults_before (layout_faults (event e) ++ exists) (reference_faults old (event e)) first_three in
      no_fault (is_some (event_by old e.id)) Exists (no_faults_after (layout_faults (event e)) exists first_two)

  -- each kind of edit
  edited_kept : (old : Book) → IsSound old → (edit : Edit) → faults_by most full old edit ≡ [] → Kept old.version old.events (edited old edit).events
  edited_kept old s (Create (program p)) f = unchanged old.version old.events s.ids s.writes s.numbers
  edited_kept old s (Create (ven v)) f = unchanged old.version old.events s.ids s.writes s.numbers
  edited_kept old s (Create (resource r)) f = unchanged old.version old.events s.ids s.writes s.numbers
  edited_kept old s (Create (event e)) f =
      one_more old.version old.events s.ids s.writes s.numbers (record { event = e; written = old.version + 1 }) refl
      (sym (is_found event_id e.id old.events) ∙ created_absent old e f)
  edited_kept old s (Change (program p)) f = unchanged old.version old.events s.ids s.writes s.numbers
  edited_kept old s (Change (ven v)) f = unchanged old.version old.events s.ids s.writes s.numbers
  edited_kept old s (Change (resource r)) f = unchanged old.version old.events s.ids s.writes s.numbers
  edited_kept old s (Change (event e)) f =
      one_again old.version old.events s.ids s.writes s.numbers (record { event = e; written = old.version + 1 }) refl
  edited_kept old s (Remove program_kind id) f = unchanged old.version old.events s.ids s.writes s.numbers
  edited_kept old s (Remove ven_kind id) f = unchanged old.version old.events s.ids s.writes s.numbers
  edited_kept old s (Remove resource_kind id) f = unchanged old.version old.events s.ids s.writes s.numbers
  edited_kept old s (Remove event_kind id) f = one_less old.version old.events s.ids s.writes s.numbers id

  pub step_kept : (old new : Book) (edit : Edit) → IsSound old → step_by most full old edit ≡ Ok new → KeptBy old new
  step_kept old new edit s h =
      let a = accepted_by most full old new edit h in (
        subst (λ (b : Book). Kept old.version old.events b.events) a.1 (edited_kept old s edit a.0),
        sym (ap (λ (b : Book). b.version) a.1),
      )

  pub step_sound : (old new : Book) (edit : Edit) → IsSound old → step_by most full old edit ≡ Ok new → IsSound new
  step_sound old new edit s h =
      let k = step_kept old new edit s h in
      record { ids = k.0.ids; writes = k.0.writes; numbers = λ w m. subst (λ n. w.written ≤ n) (sym k.1) (k.0.below w m) }

  pub step_succeeds : (old new : Book) (edit : Edit) → IsSound old → step_by most full old edit ≡ Ok new → Succeeds old new
  step_succeeds old new edit s h = let k = step_kept old new edit s h in record { order = k.0.order; same_write = k.0.same_write }

-- ---- every book of accepted edits

pub empty_sound : IsSound empty
unfolding IsDistinct
empty_sound = record { ids = tt; writes = tt; numbers = λ w m. absurd m }

pub fold_sound : (edits : List Edit) (book : Book) → IsSound book → IsSound (fold (λ b edit. result_unwrap_or (step b edit) b) book edits)
fold_sound [] book s = s
fold_sound (x ∷ xs) book s = fold_sound xs (result_unwrap_or (step book x) book) (by (step book x) refl)
  where
    by : (r : Result Book Refusal) → step book x ≡ r → IsSound (result_unwrap_or r book)
    by (Ok new) e = step_sound limits MOST_VERSION book new x s e
    by (Err f) e = s

pub after_sound : (edits : List Edit) → IsSound (after edits)
unfolding after_from
after_sound edits = fold_sound edits empty empty_sound
