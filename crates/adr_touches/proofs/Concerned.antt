-- What an edit touches is what it concerns.
use Rattle.std.proofs.Common.{◌≡◌, ℕ, ◌∙◌, Bool, true, false, cond, List, [], ◌∷◌, refl, ap, sym, filter, flat_map, Ok}
use Rattle.adr_value.specs.Limits.{limits}
use Rattle.adr_value.specs.declared.limits.TheConstants.{MOST_VERSION}
use Rattle.adr_object.specs.declared.object.Object.TheVariants.{Program as program, Event as event, Ven as ven, Resource as resource}
use Rattle.adr_object.specs.declared.object.Kind.TheVariants.{Program as program_kind, Event as event_kind, Ven as ven_kind, Resource as resource_kind}
use Rattle.adr_object.specs.declared.object.Edit.{Edit}
use Rattle.adr_object.specs.declared.object.Edit.TheVariants.{Create, Change, Remove}
use Rattle.adr_model.specs.declared.touch.Touch.{Touch}
use Rattle.adr_model.specs.Book.{Book}
use Rattle.adr_model.specs.Edits.{step}
use Rattle.adr_model.specs.Touches.{applying, touches, ids_of_both}
use Rattle.adr_model.specs.Whole.{IsWhole}
use Rattle.adr_model.proofs.Lists.{flat_map-same, flat_map-filter, In-from_filter}
use Rattle.adr_repair.specs.Table.{touched_at}
use Rattle.adr_repair.proofs.Table.{touches_by_table}
use Rattle.adr_touches.specs.declared.concern.Concern.{Concern}
use Rattle.adr_touches.specs.declared.concern.Rows.{Rows}
use Rattle.adr_touches.specs.Edited.{concern_of, concerns_event, concerns_resource, rows_between, rows_of, rows_on}
use Rattle.adr_touches.proofs.Listed.{event_ids, resource_ids}

none : {X Y : Type 0} (f : X → List Y) (xs : List X) → ((x : X) → f x ≡ []) → flat_map f xs ≡ []
none f [] h = refl
none f (x ∷ xs) h = rw (h x) (none f xs h)

module _ (old new : Book) (edit : Edit) where
  abbrev at : List ℕ → List ℕ → List Touch
  at r e = touched_at old new edit r e

  abbrev rows : List ℕ → List ℕ → List Touch
  rows r e = rows_between (rows_of edit) r (applying old r e) (applying new r e)

  abbrev has_resource : List ℕ → Bool
  has_resource = concerns_resource old (concern_of edit)

  abbrev has_event : List ℕ → Bool
  has_event = concerns_event old (concern_of edit)

by_concern : (old new : Book) (edit : Edit) (r e : List ℕ)
    → touched_at old new edit r e ≡ cond (concerns_resource old (concern_of edit) r) (cond (concerns_event old (concern_of edit) e) (rows old new edit r e) []) []
by_concern old new (Create (program p)) r e = refl
by_concern old new (Create (event x)) r e = refl
by_concern old new (Create (ven v)) r e = refl
by_concern old new (Create (resource x)) r e = refl
by_concern old new (Change (program p)) r e = refl
by_concern old new (Change (event x)) r e = refl
by_concern old new (Change (ven v)) r e = refl
by_concern old new (Change (resource x)) r e = refl
by_concern old new (Remove program_kind id) r e = refl
by_concern old new (Remove event_kind id) r e = refl
by_concern old new (Remove ven_kind id) r e = refl
by_concern old new (Remove resource_kind id) r e = refl

module _ (old new : Book) (edit : Edit) (events : List (List ℕ)) where
  abbrev all_of : List ℕ → List Touch
  all_of r = flat_map (at old new edit r) events

  abbrev concerned_of : List ℕ → List Touch
  concerned_of r = rows_on old new (rows_of edit) (filter (has_event old new edit) events) r

  other_event : (r e : List ℕ) → has_event old new edit e ≡ false → at old new edit r e ≡ []
  other_event r e h = by_concern old new edit r e ∙ by (has_resource old new edit r) (has_event old new edit e) h
    where
      by : (a b : Bool) → b ≡ false → cond a (cond b (rows old new edit r e) []) [] ≡ []
      by true true h = cc
      by true false h = refl
      by false b h = refl

  other_resource : (r : List ℕ) → has_resource old new edit r ≡ false → all_of r ≡ []
  other_resource r h = none (at old new edit r) events (λ e. by_concern old new edit r e ∙ ap (λ (a : Bool). cond a (cond (has_event old new edit e) (rows old new edit r e) []) []) h)

  own_resource : (r : List ℕ) → has_resource old new edit r ≡ true → concerned_of r ≡ all_of r
  own_resource r h =
      flat_map-same _ _ (filter (has_event old new edit) events)
      (λ e m. sym
      (by_concern old new edit r e
      ∙ ap (λ (a : Bool). cond a (cond (has_event old new edit e) (rows old new edit r e) []) []) h
      ∙ ap (λ (b : Bool). cond b (rows old new edit r e) []) (In-from_filter (has_event old new edit) events e m).1))
      ∙ flat_map-filter (at old new edit r) (has_event old new edit) events (λ e k. other_event r e k)

  concerned_all : (resources : List (List ℕ)) → flat_map concerned_of (filter (has_resource old new edit) resources) ≡ flat_map all_of resources
  concerned_all resources =
      flat_map-same _ _ (filter (has_resource old new edit) resources)
      (λ r m. own_resource r (In-from_filter (has_resource old new edit) resources r m).1)
      ∙ flat_map-filter all_of (has_resource old new edit) resources (λ r k. other_resource r k)

-- what is listed of the resources and the events that the edit concerns is all that it touches
module _ (old new : Book) (edit : Edit) (whole : IsWhole old) (made : step old edit ≡ Ok new) where
  abbrev both_resources : List (List ℕ)
  both_resources = ids_of_both (resource_ids old) (resource_ids new)

  abbrev both_events : List (List ℕ)
  both_events = ids_of_both (event_ids old) (event_ids new)

  pub edit_touches : (concern : Concern) (r : Rows) (resources events : List (List ℕ)) → concern ≡ concern_of edit → r ≡ rows_of edit
      → resources ≡ filter (concerns_resource old concern) both_resources → events ≡ filter (concerns_event old concern) both_events
      → flat_map (rows_on old new r events) resources ≡ touches old new
  edit_touches concern r resources events k i rs es =
      ap (λ (q : Rows). flat_map (rows_on old new q events) resources) i
      ∙ ap (λ (ids : List (List ℕ)). flat_map (rows_on old new (rows_of edit) events) ids) (rs ∙ ap (λ (q : Concern). filter (concerns_resource old q) both_resources) k)
      ∙ ap (λ (ids : List (List ℕ)). flat_map (rows_on old new (rows_of edit) ids) (filter (concerns_resource old (concern_of edit)) both_resources))
      (es ∙ ap (λ (q : Concern). filter (concerns_event old q) both_events) k)
      ∙ concerned_all old new edit both_events both_resources
      ∙ sym (touches_by_table limits MOST_VERSION old new edit whole made)
