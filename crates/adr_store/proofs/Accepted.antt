-- What an accepted edit says of the book that it is made on.
use Rattle.std.proofs.Common.{◌≡◌, ℕ, ◌+◌, ◌<◌, ◌≤◌, ◌==◌, ◌||◌, Bool, true, false, not, cond, nat_le, List, [], ◌∷◌, ◌++◌, length, Option, Some, None, is_some, IsSome, Result, Ok, Err, IsOk, refl, ap, sym, ◌∙◌, arith, rules, inr, inl, eqb-true}
use borrow.Author.Tests.{leb-false, ltb-false}
use Rattle.std.proofs.lemmas.Bool.{false≢true}
use Rattle.adr_value.specs.declared.limits.TheConstants.{MOST_ENTRIES, MOST_EVENTS, MOST_VERSION}
use Rattle.adr_refusal.specs.declared.refusal.Refusal.{Refusal}
use Rattle.adr_refusal.specs.declared.refusal.Refusal.TheVariants.{Exists, NotThere, InUse, Full}
use Rattle.adr_object.specs.Object.{kind_of, id_of}
use Rattle.adr_object.specs.declared.object.Kind.{Kind}
use Rattle.adr_object.specs.declared.object.Object.{Object}
use Rattle.adr_object.specs.declared.event.Event.{Event}
use Rattle.adr_object.specs.declared.object.Object.TheVariants.{Event as event}
use Rattle.adr_object.specs.declared.object.Edit.{Edit}
use Rattle.adr_object.specs.declared.object.Edit.TheVariants.{Create, Change, Remove}
use Rattle.adr_model.specs.declared.written.Written.{Written}
use Rattle.adr_model.specs.Book.{Book, event_by}
use Rattle.adr_model.specs.Edits.{step, made, faults, fault_if, layout_faults, reference_faults, has_id, is_full_for, is_named, has_too_many_entries, most_objects, count_of, entries_beside, entry_count}
use Rattle.adr_model.proofs.EditLemmas.{accepted}
use Rattle.adr_model.specs.Lists.{In}
use Rattle.adr_model.specs.Whole.{IsWhole}
use Rattle.adr_model.proofs.Steps.{no_fault, no_faults_before, no_faults_after}
use Rattle.adr_model.proofs.Keyed.{event_id}
use Rattle.adr_store.specs.Numbers.{all_entries, by_number}
use Rattle.adr_store.proofs.Found.{without_none}

pub is_ok : (r : Result Book Refusal) → IsOk r → (b : Book) × (r ≡ Ok b)
is_ok (Ok b) h = (b, refl)
is_ok (Err f) h = absurd (cc)

module _ (book : Book) where
  faultless : (edit : Edit) → IsOk (step book edit) → faults book edit ≡ []
  faultless edit h = let s = is_ok (step book edit) h in (accepted book s.0 edit s.1).0

  -- the next book is the one with the edit made
  pub made_is : (edit : Edit) → IsOk (step book edit) → step book edit ≡ Ok (made book edit)
  made_is edit h = let s = is_ok (step book edit) h in s.1 ∙ ap (λ b. Ok b) (sym (accepted book s.0 edit s.1).1)

  or_parts : (a b : Bool) → (a || b) ≡ false → (a ≡ false) × (b ≡ false)
  or_parts true b h = absurd (false≢true (sym h))
  or_parts false b h = (refl, h)

  full_of : (a b c d : List Refusal) → ((a ++ b) ++ c) ++ d ≡ [] → (b ≡ []) × (d ≡ [])
  full_of a b c d h = (no_faults_after a b (no_faults_before (a ++ b) c (no_faults_before ((a ++ b) ++ c) d h)), no_faults_after ((a ++ b) ++ c) d h)

  created_facts : (o : Object) → IsOk (step book (Create o)) → (has_id book (kind_of o) (id_of o) ≡ false) × ((nat_le MOST_VERSION book.version || is_full_for book (Create o)) ≡ false)
  created_facts o h =
      let full : List Refusal = fault_if (nat_le MOST_VERSION book.version || is_full_for book (Create o)) Full in
      let p = full_of (layout_faults o) (fault_if (has_id book (kind_of o) (id_of o)) Exists) (reference_faults book o) full (faultless (Create o) h) in
      (no_fault (has_id book (kind_of o) (id_of o)) Exists p.0, no_fault (nat_le MOST_VERSION book.version || is_full_for book (Create o)) Full p.1)

  changed_facts : (o : Object) → IsOk (step book (Change o)) → (not (has_id book (kind_of o) (id_of o)) ≡ false) × ((nat_le MOST_VERSION book.version || is_full_for book (Change o)) ≡ false)
  changed_facts o h =
      let full : List Refusal = fault_if (nat_le MOST_VERSION book.version || is_full_for book (Change o)) Full in
      let p = full_of (layout_faults o) (fault_if (not (has_id book (kind_of o) (id_of o))) NotThere) (reference_faults book o) full (faultless (Change o) h) in
      (no_fault (not (has_id book (kind_of o) (id_of o))) NotThere p.0, no_fault (nat_le MOST_VERSION book.version || is_full_for book (Change o)) Full p.1)

  room : (b : Bool) → (nat_le MOST_VERSION book.version || b) ≡ false → book.version < MOST_VERSION
  room b h = leb-false MOST_VERSION book.version (or_parts (nat_le MOST_VERSION book.version) b h).0

  pub room_to_create : (o : Object) → IsOk (step book (Create o)) → book.version < MOST_VERSION
  room_to_create o h = room (is_full_for book (Create o)) (created_facts o h).1

  pub room_to_change : (o : Object) → IsOk (step book (Change o)) → book.version < MOST_VERSION
  room_to_change o h = room (is_full_for book (Change o)) (changed_facts o h).1

  pub room_to_remove : (kind : Kind) (id : List ℕ) → IsOk (step book (Remove kind id)) → book.version < MOST_VERSION
  room_to_remove kind id h =
      leb-false MOST_VERSION book.version
      (no_fault (nat_le MOST_VERSION book.version) Full
      (no_faults_after (fault_if (not (has_id book kind id)) NotThere ++ fault_if (is_named book kind id) InUse) (fault_if (nat_le MOST_VERSION book.version) Full) (faultless (Remove kind id) h)))

  -- the object is new
  pub absent : {X : Type 0} (o : Option X) → is_some o ≡ false → o ≡ None
  absent None h = refl
  absent (Some x) h = absurd (false≢true (sym h))

  pub new_object : (o : Object) → IsOk (step book (Create o)) → has_id book (kind_of o) (id_of o) ≡ false
  new_object o h = (created_facts o h).0

  -- there are fewer than the most of its kind
  pub few_to_create : (o : Object) → IsOk (step book (Create o)) → count_of book (kind_of o) < most_objects (kind_of o)
  few_to_create o h =
      let full = (or_parts (nat_le MOST_VERSION book.version) (is_full_for book (Create o)) (created_facts o h).1).1 in
      leb-false (most_objects (kind_of o)) (count_of book (kind_of o)) (or_parts (nat_le (most_objects (kind_of o)) (count_of book (kind_of o))) (has_too_many_entries book o) full).0

  -- the entries of a new event fit beside all that are there
  pub entries_to_create : (e : Event) → IsOk (step book (Create (event e))) → all_entries book.events + entry_count e ≤ MOST_ENTRIES
  entries_to_create e h =
      let full = (or_parts (nat_le MOST_VERSION book.version) (is_full_for book (Create (event e))) (created_facts (event e) h).1).1 in
      let many = (or_parts (nat_le MOST_EVENTS (length book.events)) (has_too_many_entries book (event e)) full).1 in
      let fits = ltb-false MOST_ENTRIES (entries_beside book e.id + entry_count e) many in
      let new : event_by book e.id ≡ None = absent (event_by book e.id) (new_object (event e) h) in
      let all : entries_beside book e.id ≡ all_entries book.events = ap all_entries (without_none event_id e.id book.events new) in
      omega (arith, fits, all)

  -- the object is there
  pub there : {X : Type 0} (o : Option X) → not (is_some o) ≡ false → IsSome o
  there None h = absurd (false≢true (sym h))
  there (Some x) h = search rules

  pub old_object : (o : Object) → IsOk (step book (Change o)) → not (has_id book (kind_of o) (id_of o)) ≡ false
  old_object o h = (changed_facts o h).0

  -- the entries of a changed event fit beside those of the others
  pub entries_to_change : (e : Event) → IsOk (step book (Change (event e))) → entries_beside book e.id + entry_count e ≤ MOST_ENTRIES
  entries_to_change e h =
      ltb-false MOST_ENTRIES (entries_beside book e.id + entry_count e)
      (or_parts (nat_le MOST_VERSION book.version) (is_full_for book (Change (event e))) (changed_facts (event e) h).1).1

  -- the next number is no event's
  pub next_number : IsWhole book → by_number book.events (book.version + 1) ≡ None
  next_number w = unwritten book.events (λ v m. w.sound.numbers v m)
    where
      skip : (b : Bool) (v : Written) (vs : List Written) → (v.written == (book.version + 1)) ≡ b → v.written ≤ book.version → by_number vs (book.version + 1) ≡ None
          → cond b (Some v) (by_number vs (book.version + 1)) ≡ None
      skip true v vs e le rest = let is : v.written ≡ book.version + 1 = eqb-true v.written (book.version + 1) e in absurd (omega (arith, is, le))
      skip false v vs e le rest = rest

      unwritten : (vs : List Written) → ((v : Written) → In v vs → v.written ≤ book.version) → by_number vs (book.version + 1) ≡ None
      unwritten [] h = refl
      unwritten (v ∷ vs) h = skip (v.written == (book.version + 1)) v vs refl (h v (inl refl)) (unwritten vs (λ u m. h u (inr m)))
