-- An accepted edit keeps the whole book.
use Rattle.std.proofs.Common.{◌≡◌, ℕ, ◌+◌, ◌||◌, nat_le, true, false, not, List, [], ◌∷◌, ◌++◌, map, is_some, refl, subst, Result, Ok, Err, IsOk, find, rules}
use Rattle.std.specs.List.{IsDistinct}
use Rattle.std.specs.Str.{bytes_eq}
use Rattle.std.specs.Option.{option_map_or}
use Rattle.std.specs.Result.{result_unwrap_or, result_err}
use Rattle.std.proofs.lemmas.Bool.{not-false}
use Rattle.adr_refusal.specs.declared.refusal.Refusal.{Refusal}
use Rattle.adr_refusal.specs.declared.refusal.Refusal.TheVariants.{Exists, NotThere, NoProgram, NoVen, InUse, Full}
use Rattle.adr_time.specs.declared.span.Span.{Span}
use Rattle.adr_object.specs.Object.{kind_of, id_of}
use Rattle.adr_object.specs.declared.event.Event.{Event}
use Rattle.adr_object.specs.declared.party.Program.{Program}
use Rattle.adr_object.specs.declared.party.Ven.{Ven}
use Rattle.adr_object.specs.declared.party.Resource.{Resource}
use Rattle.adr_object.specs.declared.object.Object.{Object}
use Rattle.adr_object.specs.declared.object.Object.TheVariants.{Program as program, Event as event, Ven as ven, Resource as resource}
use Rattle.adr_object.specs.declared.object.Kind.{Kind}
use Rattle.adr_object.specs.declared.object.Kind.TheVariants.{Program as program_kind, Event as event_kind, Ven as ven_kind, Resource as resource_kind}
use Rattle.adr_object.specs.declared.object.Edit.{Edit}
use Rattle.adr_object.specs.declared.object.Edit.TheVariants.{Create, Change, Remove}
use Rattle.adr_model.specs.declared.written.Written.{Written}
use Rattle.adr_model.specs.Layout.{layout}
use Rattle.adr_model.specs.Book.{Book, empty}
use Rattle.adr_model.proofs.EditLemmas.{accepted_by}
use Rattle.adr_model.specs.Edits.{step, step_by, after, faults_by, edited, fault_if, layout_faults, reference_faults, is_named, is_full_for_by, has_id, after_from}
use Rattle.adr_value.specs.Limits.{Limits, limits}
use Rattle.adr_value.specs.declared.limits.TheConstants.{MOST_VERSION}
use Rattle.adr_model.specs.Lists.{In}
use Rattle.adr_model.specs.Whole.{IsWhole}
use Rattle.adr_model.proofs.Steps.{no_fault, no_faults_before, no_faults_after, step_sound, empty_sound}
use Rattle.adr_model.proofs.Lists.{none_passes}
use Rattle.adr_model.proofs.Keyed.{program_id, ven_id, resource_id, event_id, distinct_filter, put, distinct_more, distinct_put, found_more, found_put, found_drop, each_more, each_put, each_drop}

-- ---- what the absence of faults says

-- of a written object: its layout, its id and what it names
written_parts : (a b c d : List Refusal) → ((a ++ b) ++ c) ++ d ≡ [] → (a ≡ []) × (b ≡ []) × (c ≡ [])
written_parts a b c d h =
    let abc = no_faults_before ((a ++ b) ++ c) d h in
    let ab = no_faults_before (a ++ b) c abc in
    (no_faults_before a b ab, no_faults_after a b ab, no_faults_after (a ++ b) c abc)

module _ (most : Limits) (full : ℕ) where
  full_fault : Book → Edit → List Refusal
  full_fault book edit = fault_if (nat_le full book.version || is_full_for_by most book edit) Full

  pub created_parts : (book : Book) (o : Object) → faults_by most full book (Create o) ≡ []
      → (layout_faults o ≡ []) × (fault_if (has_id book (kind_of o) (id_of o)) Exists ≡ []) × (reference_faults book o ≡ [])
  unfolding full_fault
  created_parts book o h = written_parts (layout_faults o) (fault_if (has_id book (kind_of o) (id_of o)) Exists) (reference_faults book o) (full_fault book (Create o)) h

  changed_parts : (book : Book) (o : Object) → faults_by most full book (Change o) ≡ []
      → (layout_faults o ≡ []) × (fault_if (not (has_id book (kind_of o) (id_of o))) NotThere ≡ []) × (reference_faults book o ≡ [])
  unfolding full_fault
  changed_parts book o h = written_parts (layout_faults o) (fault_if (not (has_id book (kind_of o) (id_of o))) NotThere) (reference_faults book o) (full_fault book (Change o)) h

  pub unnamed : (book : Book) (kind : Kind) (id : List ℕ) → faults_by most full book (Remove kind id) ≡ [] → is_named book kind id ≡ false
  unnamed book kind id h =
      no_fault (is_named book kind id) InUse
      (no_faults_after (fault_if (not (has_id book kind id)) NotThere) (fault_if (is_named book kind id) InUse)
      (no_faults_before (fault_if (not (has_id book kind id)) NotThere ++ fault_if (is_named book kind id) InUse) (fault_if (nat_le full book.version) Full) h))

laid_out : (e : Event) → layout_faults (event e) ≡ [] → IsOk (layout e)
laid_out e = by (layout e)
  where
    by : (r : Result (List Span) Refusal) → option_map_or (λ fault. fault ∷ []) (result_err r) [] ≡ [] → IsOk r
    by (Ok spans) h = search rules
    by (Err f) h = absurd (cc)

-- ---- the parts of a book that the facts speak of

record Linked (programs : List Program) (vens : List Ven) (resources : List Resource) (events : List Written) : Type 0 where
  program_ids : IsDistinct bytes_eq (map program_id programs)
  ven_ids : IsDistinct bytes_eq (map ven_id vens)
  resource_ids : IsDistinct bytes_eq (map resource_id resources)
  named : (w : Written) → In w events → is_some (find (λ p. bytes_eq w.event.program_id p.id) programs) ≡ true
  owned : (r : Resource) → In r resources → is_some (find (λ v. bytes_eq r.ven_id v.id) vens) ≡ true
  layouts : (w : Written) → In w events → IsOk (layout w.event)

abbrev LinkedBook : Book → Type 0
LinkedBook b = Linked b.programs b.vens b.resources b.events

linked_of : (book : Book) → IsWhole book → LinkedBook book
linked_of book w = record { program_ids = w.program_ids; ven_ids = w.ven_ids; resource_ids = w.resource_ids; named = w.programs; owned = w.vens; layouts = w.layouts }

-- under any limits, and wherever the book is full
module _ (most : Limits) (full : ℕ) where
  edited_linked : (b : Book) → LinkedBook b → (edit : Edit) → faults_by most full b edit ≡ [] → LinkedBook (edited b edit)
  unfolding put
  edited_linked b l (Create (program p)) f =
      let (a, c, d) = created_parts most full b (program p) f in
      record {
        ven_ids = l.ven_ids;
        resource_ids = l.resource_ids;
        owned = l.owned;
        layouts = l.layouts;
        program_ids = distinct_more program_id p b.programs (no_fault (has_id b program_kind p.id) Exists c) l.program_ids;
        named = λ w m. found_more program_id p b.programs w.event.program_id (l.named w m);
      }
  edited_linked b l (Create (ven v)) f =
      let (a, c, d) = created_parts most full b (ven v) f in
      record {
        program_ids = l.program_ids;
        resource_ids = l.resource_ids;
        named = l.named;
        layouts = l.layouts;
        ven_ids = distinct_more ven_id v b.vens (no_fault (has_id b ven_kind v.id) Exists c) l.ven_ids;
        owned = λ r m. found_more ven_id v b.vens r.ven_id (l.owned r m);
      }
  edited_linked b l (Create (resource r)) f =
      let (a, c, d) = created_parts most full b (resource r) f in
      record {
        program_ids = l.program_ids;
        ven_ids = l.ven_ids;
        named = l.named;
        layouts = l.layouts;
        resource_ids = distinct_more resource_id r b.resources (no_fault (has_id b resource_kind r.id) Exists c) l.resource_ids;
        owned = each_more (λ s. has_id b ven_kind s.ven_id ≡ true) b.resources r l.owned (not-false (has_id b ven_kind r.ven_id) (no_fault (not (has_id b ven_kind r.ven_id)) NoVen d));
      }
  edited_linked b l (Create (event e)) f =
      let (a, c, d) = created_parts most full b (event e) f in
      let x : Written = record { event = e; written = b.version + 1 } in
      record {
        program_ids = l.program_ids;
        ven_ids = l.ven_ids;
        resource_ids = l.resource_ids;
        owned = l.owned;
        named = each_more (λ w. has_id b program_kind w.event.program_id ≡ true) b.events x l.named
            (not-false (has_id b program_kind e.program_id) (no_fault (not (has_id b program_kind e.program_id)) NoProgram d));
        layouts = each_more (λ w. IsOk (layout w.event)) b.events x l.layouts (laid_out e a);
      }
  edited_linked b l (Change (program p)) f =
      record {
        ven_ids = l.ven_ids;
        resource_ids = l.resource_ids;
        owned = l.owned;
        layouts = l.layouts;
        program_ids = distinct_put program_id p b.programs l.program_ids;
        named = λ w m. found_put program_id p b.programs w.event.program_id (l.named w m);
      }
  edited_linked b l (Change (ven v)) f =
      record {
        program_ids = l.program_ids;
        resource_ids = l.resource_ids;
        named = l.named;
        layouts = l.layouts;
        ven_ids = distinct_put ven_id v b.vens l.ven_ids;
        owned = λ r m. found_put ven_id v b.vens r.ven_id (l.owned r m);
      }
  edited_linked b l (Change (resource r)) f =
      let (a, c, d) = changed_parts most full b (resource r) f in
      record {
        program_ids = l.program_ids;
        ven_ids = l.ven_ids;
        named = l.named;
        layouts = l.layouts;
        resource_ids = distinct_put resource_id r b.resources l.resource_ids;
        owned = each_put (λ s. has_id b ven_kind s.ven_id ≡ true) resource_id b.resources r l.owned (not-false (has_id b ven_kind r.ven_id) (no_fault (not (has_id b ven_kind r.ven_id)) NoVen d));
      }
  edited_linked b l (Change (event e)) f =
      let (a, c, d) = changed_parts most full b (event e) f in
      let x : Written = record { event = e; written = b.version + 1 } in
      record {
        program_ids = l.program_ids;
        ven_ids = l.ven_ids;
        resource_ids = l.resource_ids;
        owned = l.owned;
        named = each_put (λ w. has_id b program_kind w.event.program_id ≡ true) event_id b.events x l.named
            (not-false (has_id b program_kind e.program_id) (no_fault (not (has_id b program_kind e.program_id)) NoProgram d));
        layouts = each_put (λ w. IsOk (layout w.event)) event_id b.events x l.layouts (laid_out e a);
      }
  edited_linked b l (Remove program_kind id) f =
      record {
        ven_ids = l.ven_ids;
        resource_ids = l.resource_ids;
        owned = l.owned;
        layouts = l.layouts;
        program_ids = distinct_filter bytes_eq program_id (λ q. not (bytes_eq id q.id)) b.programs l.program_ids;
        named = λ w m. found_drop program_id id b.programs w.event.program_id
            (none_passes (λ v. bytes_eq id v.event.program_id) b.events (unnamed most full b program_kind id f) w m) (l.named w m);
      }
  edited_linked b l (Remove ven_kind id) f =
      record {
        program_ids = l.program_ids;
        resource_ids = l.resource_ids;
        named = l.named;
        layouts = l.layouts;
        ven_ids = distinct_filter bytes_eq ven_id (λ q. not (bytes_eq id q.id)) b.vens l.ven_ids;
        owned = λ r m. found_drop ven_id id b.vens r.ven_id
            (none_passes (λ s. bytes_eq id s.ven_id) b.resources (unnamed most full b ven_kind id f) r m) (l.owned r m);
      }
  edited_linked b l (Remove resource_kind id) f =
      record {
        program_ids = l.program_ids;
        ven_ids = l.ven_ids;
        named = l.named;
        layouts = l.layouts;
        resource_ids = distinct_filter bytes_eq resource_id (λ q. not (bytes_eq id q.id)) b.resources l.resource_ids;
        owned = each_drop (λ s. has_id b ven_kind s.ven_id ≡ true) (λ q. not (bytes_eq id q.id)) b.resources l.owned;
      }
  edited_linked b l (Remove event_kind id) f =
      record {
        program_ids = l.program_ids;
        ven_ids = l.ven_ids;
        resource_ids = l.resource_ids;
        owned = l.owned;
        named = each_drop (λ w. has_id b program_kind w.event.program_id ≡ true) (λ w. not (bytes_eq id w.event.id)) b.events l.named;
        layouts = each_drop (λ w. IsOk (layout w.event)) (λ w. not (bytes_eq id w.event.id)) b.events l.layouts;
      }

  step_linked : (old new : Book) (edit : Edit) → LinkedBook old → step_by most full old edit ≡ Ok new → LinkedBook new
  step_linked old new edit l h = let a = accepted_by most full old new edit h in subst (λ b. LinkedBook b) a.1 (edited_linked old l edit a.0)

  pub step_whole : (old new : Book) (edit : Edit) → IsWhole old → step_by most full old edit ≡ Ok new → IsWhole new
  step_whole old new edit w h =
      let l = step_linked old new edit (linked_of old w) h in
      record { sound = step_sound most full old new edit w.sound h; program_ids = l.program_ids; ven_ids = l.ven_ids; resource_ids = l.resource_ids; programs = l.named; vens = l.owned; layouts = l.layouts }

empty_whole : IsWhole empty
unfolding IsDistinct
empty_whole = record {
  sound = empty_sound;
  program_ids = tt;
  ven_ids = tt;
  resource_ids = tt;
  programs = λ w m. absurd m;
  vens = λ r m. absurd m;
  layouts = λ w m. absurd m;
}

-- what edits leave of a whole book is whole
pub after_from_whole : (edits : List Edit) (book : Book) → IsWhole book → IsWhole (after_from book edits)
unfolding after_from
after_from_whole [] book s = s
after_from_whole (x ∷ xs) book s = after_from_whole xs (result_unwrap_or (step book x) book) (by (step book x) refl)
  where
    by : (r : Result Book Refusal) → step book x ≡ r → IsWhole (result_unwrap_or r book)
    by (Ok new) e = step_whole limits MOST_VERSION book new x s e
    by (Err f) e = s

pub after_whole : (edits : List Edit) → IsWhole (after edits)
after_whole edits = after_from_whole edits empty empty_whole
