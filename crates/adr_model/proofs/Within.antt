-- Edits keep the limits.
use Rattle.std.proofs.Common.{◌≡◌, ℕ, ◌+◌, ◌≤◌, ◌||◌, nat_le, nat_lt, Bool, true, false, not, cond, List, [], ◌∷◌, ◌++◌, map, length, filter, Some, is_some, if◌then◌else◌, refl, ap, sym, subst, ◌∙◌, Result, Ok, Err, arith}
use Rattle.std.specs.Prelude.{sum_by}
use Rattle.std.specs.List.{AllByRecursion, IsDistinct}
use Rattle.std.specs.Str.{bytes_eq}
use Rattle.std.specs.Result.{result_unwrap_or}
use Rattle.std.proofs.lemmas.Bool.{false≢true, or_parts}
use Rattle.std.proofs.lemmas.List.{length-map}
use Rattle.std.proofs.lemmas.List.Sums.{sum_by-cons, sum_by_push}
use Rattle.adr_value.specs.Limits.{Limits, limits}
use Rattle.adr_value.specs.declared.limits.TheConstants.{MOST_VERSION}
use Rattle.adr_refusal.specs.declared.refusal.Refusal.{Refusal}
use Rattle.adr_refusal.specs.declared.refusal.Refusal.TheVariants.{Exists, NotThere, InUse, Full}
use Rattle.adr_object.specs.Object.{kind_of, id_of}
use Rattle.adr_object.specs.declared.object.Object.{Object}
use Rattle.adr_object.specs.declared.object.Object.TheVariants.{Program as program, Event as event, Ven as ven, Resource as resource}
use Rattle.adr_object.specs.declared.object.Kind.{Kind}
use Rattle.adr_object.specs.declared.object.Kind.TheVariants.{Program as program_kind, Event as event_kind, Ven as ven_kind, Resource as resource_kind}
use Rattle.adr_object.specs.declared.object.Edit.{Edit}
use Rattle.adr_object.specs.declared.object.Edit.TheVariants.{Create, Change, Remove}
use Rattle.adr_model.specs.declared.written.Written.{Written}
use Rattle.adr_model.specs.Book.{Book, empty}
use Rattle.adr_model.proofs.EditLemmas.{accepted_by}
use Rattle.adr_model.specs.Edits.{after_from, count_of, entries_beside, entry_count, fault_if, faults_by, has_id, has_too_many_entries_by, is_full_for_by, is_named, layout_faults, made, most_objects_by, reference_faults, step_by}
use Rattle.adr_model.specs.Whole.{event_ids}
use Rattle.adr_model.specs.Within.{BooksAreWithin, EditsKeepLimits, IsWithin, after_by, entries_in_all}
use Rattle.adr_model.proofs.Steps.{no_fault, no_faults_before, no_faults_after}
use Rattle.adr_model.proofs.Lists.{same_bytes}
use Rattle.adr_model.proofs.Keyed.{by_key, event_id, distinct_filter, distinct_more, distinct_put, put}

-- ---- lengths and sums of a changed list

module _ {X : Type 0} where
  length-push : (xs : List X) (x : X) → length (xs ++ x ∷ []) ≡ length xs + 1
  length-push [] x = refl
  length-push (y ∷ xs) x = let h = length-push xs x in omega (arith, h)

  length-dropped : (p : X → Bool) (xs : List X) → length (filter p xs) ≤ length xs
  length-dropped p [] = omega arith
  length-dropped p (x ∷ xs) = by (p x) (length-dropped p xs)
    where
      by : (b : Bool) → length (filter p xs) ≤ length xs → length (cond b (x ∷ filter p xs) (filter p xs)) ≤ length (x ∷ xs)
      by true h = omega (arith, h)
      by false h = omega (arith, h)

  sum-dropped : (f : X → ℕ) (p : X → Bool) (xs : List X) → sum_by f (filter p xs) ≤ sum_by f xs
  sum-dropped f p [] = omega arith
  sum-dropped f p (x ∷ xs) = by (p x) (sum-dropped f p xs)
    where
      by : (b : Bool) → sum_by f (filter p xs) ≤ sum_by f xs → sum_by f (cond b (x ∷ filter p xs) (filter p xs)) ≤ sum_by f (x ∷ xs)
      by true h = let a = sum_by-cons f x (filter p xs) in let c = sum_by-cons f x xs in omega (arith, h, a, c)
      by false h = let c = sum_by-cons f x xs in omega (arith, h, c)

-- what no other has the key of is put into no place, and all others are kept
alone : {X : Type 0} (key : X → List ℕ) (x : X) (xs : List X) → AllByRecursion (λ k. bytes_eq (key x) k ≡ false) (map key xs)
    → (put key x xs ≡ xs) × (filter (λ y. not (bytes_eq (key x) (key y))) xs ≡ xs)
unfolding put
alone key x [] a = (refl, refl)
alone key x (y ∷ ys) a = let rest = alone key x ys a.1 in (rw a.0 (ap (λ l. y ∷ l) rest.0), rw a.0 (ap (λ l. y ∷ l) rest.1))

-- what is absent drops nothing
absent_drops_none : {X : Type 0} (key : X → List ℕ) (id : List ℕ) (xs : List X) → is_some (by_key key id xs) ≡ false
    → filter (λ y. not (bytes_eq id (key y))) xs ≡ xs
absent_drops_none key id [] a = refl
absent_drops_none key id (y ∷ ys) a = by (bytes_eq id (key y)) a (absent_drops_none key id ys)
  where
    by : (b : Bool) → is_some (cond b (Some y) (by_key key id ys)) ≡ false → (is_some (by_key key id ys) ≡ false → filter (λ z. not (bytes_eq id (key z))) ys ≡ ys)
        → cond (not b) (y ∷ filter (λ z. not (bytes_eq id (key z))) ys) (filter (λ z. not (bytes_eq id (key z))) ys) ≡ y ∷ ys
    by true h rest = absurd (false≢true (sym h))
    by false h rest = ap (λ l. y ∷ l) (rest h)

-- of distinct keys, one at most gives way to what is put in its place
sum-put : {X : Type 0} (key : X → List ℕ) (f : X → ℕ) (x : X) (xs : List X) → IsDistinct bytes_eq (map key xs)
    → sum_by f (put key x xs) ≤ sum_by f (filter (λ y. not (bytes_eq (key x) (key y))) xs) + f x
unfolding IsDistinct put
sum-put key f x [] d = omega arith
sum-put {X = X} key f x (y ∷ ys) d = by (bytes_eq (key x) (key y)) refl (sum-put key f x ys d.1)
  where
    kept : List X
    kept = filter (λ z. not (bytes_eq (key x) (key z))) ys

    by : (b : Bool) → bytes_eq (key x) (key y) ≡ b → sum_by f (put key x ys) ≤ sum_by f kept + f x
        → sum_by f ((if b then x else y) ∷ put key x ys) ≤ sum_by f (cond (not b) (y ∷ kept) kept) + f x
    by true t rest =
        let same : key y ≡ key x = sym (same_bytes (key x) (key y) t) in
        let others = alone key x ys (subst (λ k. AllByRecursion (λ z. bytes_eq k z ≡ false) (map key ys)) same d.0) in
        let first = sum_by-cons f x (put key x ys) in
        let less : sum_by f (put key x ys) ≡ sum_by f kept = ap (sum_by f) (others.0 ∙ sym others.1) in
        omega (arith, first, less)
    by false t rest = let a = sum_by-cons f y (put key x ys) in let b = sum_by-cons f y kept in omega (arith, rest, a, b)

-- ---- what the absence of faults says of the limits

room : (most n : ℕ) → nat_le most n ≡ false → n + 1 ≤ most
room most n h = grind arith

enough : (most n : ℕ) → nat_lt most n ≡ false → n ≤ most
enough most n h = grind arith

module _ (l : Limits) (full : ℕ) (book : Book) where
  full_fault : Edit → List Refusal
  full_fault edit = fault_if (nat_le full book.version || is_full_for_by l book edit) Full

  not_full : (edit : Edit) → full_fault edit ≡ [] → (nat_le full book.version ≡ false) × (is_full_for_by l book edit ≡ false)
  unfolding full_fault
  not_full edit h =
      let full_now = nat_le full book.version in
      or_parts full_now (is_full_for_by l book edit) (no_fault (full_now || is_full_for_by l book edit) Full h)

  created_room : (o : Object) → faults_by l full book (Create o) ≡ []
      → (has_id book (kind_of o) (id_of o) ≡ false) × (nat_le full book.version ≡ false)
      × (nat_le (most_objects_by l (kind_of o)) (count_of book (kind_of o)) ≡ false) × (has_too_many_entries_by l book o ≡ false)
  unfolding full_fault
  created_room o h =
      let exists : List Refusal = fault_if (has_id book (kind_of o) (id_of o)) Exists in
      let named = reference_faults book o in
      let first = no_faults_before ((layout_faults o ++ exists) ++ named) (full_fault (Create o)) h in
      let absent = no_faults_after (layout_faults o) exists (no_faults_before (layout_faults o ++ exists) named first) in
      let last = not_full (Create o) (no_faults_after ((layout_faults o ++ exists) ++ named) (full_fault (Create o)) h) in
      let parts = or_parts (nat_le (most_objects_by l (kind_of o)) (count_of book (kind_of o))) (has_too_many_entries_by l book o) last.1 in
      (no_fault (has_id book (kind_of o) (id_of o)) Exists absent, last.0, parts.0, parts.1)

  changed_room : (o : Object) → faults_by l full book (Change o) ≡ [] → (nat_le full book.version ≡ false) × (has_too_many_entries_by l book o ≡ false)
  unfolding full_fault
  changed_room o h =
      let missing : List Refusal = fault_if (not (has_id book (kind_of o) (id_of o))) NotThere in
      not_full (Change o) (no_faults_after ((layout_faults o ++ missing) ++ reference_faults book o) (full_fault (Change o)) h)

  removed_room : (kind : Kind) (id : List ℕ) → faults_by l full book (Remove kind id) ≡ [] → nat_le full book.version ≡ false
  removed_room kind id h =
      let missing : List Refusal = fault_if (not (has_id book kind id)) NotThere in
      no_fault (nat_le full book.version) Full
      (no_faults_after (missing ++ fault_if (is_named book kind id) InUse) (fault_if (nat_le full book.version) Full) h)

  -- ---- each kind of edit

  made_within : IsDistinct bytes_eq (event_ids book) → IsWithin l full book → (edit : Edit) → faults_by l full book edit ≡ [] → IsWithin l full (made book edit)
  unfolding put
  made_within d w (Create (program p)) f =
      let (absent, version, count, entries) = created_room (program p) f in
      let longer = length-push book.programs p in
      let more = room l.programs (length book.programs) count in
      record { programs = omega (arith, longer, more); vens = w.vens; resources = w.resources; events = w.events; entries = w.entries; version = room full book.version version }
  made_within d w (Create (ven v)) f =
      let (absent, version, count, entries) = created_room (ven v) f in
      let longer = length-push book.vens v in
      let more = room l.vens (length book.vens) count in
      record { programs = w.programs; vens = omega (arith, longer, more); resources = w.resources; events = w.events; entries = w.entries; version = room full book.version version }
  made_within d w (Create (resource r)) f =
      let (absent, version, count, entries) = created_room (resource r) f in
      let longer = length-push book.resources r in
      let more = room l.resources (length book.resources) count in
      record { programs = w.programs; vens = w.vens; resources = omega (arith, longer, more); events = w.events; entries = w.entries; version = room full book.version version }
  made_within d w (Create (event e)) f =
      let (absent, version, count, entries) = created_room (event e) f in
      let x : Written = record { event = e; written = book.version + 1 } in
      let longer = length-push book.events x in
      let more = room l.events (length book.events) count in
      let sum = sum_by_push (λ (v : Written). entry_count v.event) book.events x in
      let beside : entries_beside book e.id ≡ entries_in_all book = ap (sum_by (λ (v : Written). entry_count v.event)) (absent_drops_none event_id e.id book.events absent) in
      let fits = enough l.entries (entries_beside book e.id + entry_count e) entries in
      record { programs = w.programs; vens = w.vens; resources = w.resources; events = omega (arith, longer, more); entries = omega (arith, sum, beside, fits); version = room full book.version version }
  made_within d w (Change (program p)) f =
      let (version, entries) = changed_room (program p) f in
      record { programs = subst (λ n. n ≤ l.programs) (sym (length-map book.programs _)) w.programs; vens = w.vens; resources = w.resources; events = w.events; entries = w.entries; version = room full book.version version }
  made_within d w (Change (ven v)) f =
      let (version, entries) = changed_room (ven v) f in
      record { programs = w.programs; vens = subst (λ n. n ≤ l.vens) (sym (length-map book.vens _)) w.vens; resources = w.resources; events = w.events; entries = w.entries; version = room full book.version version }
  made_within d w (Change (resource r)) f =
      let (version, entries) = changed_room (resource r) f in
      record { programs = w.programs; vens = w.vens; resources = subst (λ n. n ≤ l.resources) (sym (length-map book.resources _)) w.resources; events = w.events; entries = w.entries; version = room full book.version version }
  made_within d w (Change (event e)) f =
      let (version, entries) = changed_room (event e) f in
      let x : Written = record { event = e; written = book.version + 1 } in
      let sum = sum-put event_id (λ (v : Written). entry_count v.event) x book.events d in
      let fits = enough l.entries (entries_beside book e.id + entry_count e) entries in
      record { programs = w.programs; vens = w.vens; resources = w.resources; events = subst (λ n. n ≤ l.events) (sym (length-map book.events _)) w.events; entries = omega (arith, sum, fits); version = room full book.version version }
  made_within d w (Remove program_kind id) f =
      let less = length-dropped (λ q. not (bytes_eq id q.id)) book.programs in
      let before = w.programs in
      record { programs = omega (arith, less, before); vens = w.vens; resources = w.resources; events = w.events; entries = w.entries; version = room full book.version (removed_room program_kind id f) }
  made_within d w (Remove ven_kind id) f =
      let less = length-dropped (λ q. not (bytes_eq id q.id)) book.vens in
      let before = w.vens in
      record { programs = w.programs; vens = omega (arith, less, before); resources = w.resources; events = w.events; entries = w.entries; version = room full book.version (removed_room ven_kind id f) }
  made_within d w (Remove resource_kind id) f =
      let less = length-dropped (λ q. not (bytes_eq id q.id)) book.resources in
      let before = w.resources in
      record { programs = w.programs; vens = w.vens; resources = omega (arith, less, before); events = w.events; entries = w.entries; version = room full book.version (removed_room resource_kind id f) }
  made_within d w (Remove event_kind id) f =
      let less = length-dropped (λ (v : Written). not (bytes_eq id v.event.id)) book.events in
      let before = w.events in
      let sum = sum-dropped (λ (v : Written). entry_count v.event) (λ (v : Written). not (bytes_eq id v.event.id)) book.events in
      let all = w.entries in
      record { programs = w.programs; vens = w.vens; resources = w.resources; events = omega (arith, less, before); entries = omega (arith, sum, all); version = room full book.version (removed_room event_kind id f) }

  made_ids : IsDistinct bytes_eq (event_ids book) → (edit : Edit) → faults_by l full book edit ≡ [] → IsDistinct bytes_eq (event_ids (made book edit))
  unfolding put
  made_ids d (Create (program p)) f = d
  made_ids d (Create (ven v)) f = d
  made_ids d (Create (resource r)) f = d
  made_ids d (Create (event e)) f = distinct_more event_id (record { event = e; written = book.version + 1 }) book.events (created_room (event e) f).0 d
  made_ids d (Change (program p)) f = d
  made_ids d (Change (ven v)) f = d
  made_ids d (Change (resource r)) f = d
  made_ids d (Change (event e)) f = distinct_put event_id (record { event = e; written = book.version + 1 }) book.events d
  made_ids d (Remove program_kind id) f = d
  made_ids d (Remove ven_kind id) f = d
  made_ids d (Remove resource_kind id) f = d
  made_ids d (Remove event_kind id) f = distinct_filter bytes_eq event_id (λ w. not (bytes_eq id w.event.id)) book.events d

-- ---- every book of accepted edits

pub edits_keep_limits : EditsKeepLimits
edits_keep_limits l full base [] d w = w
edits_keep_limits l full base (x ∷ xs) d w = by (step_by l full base x) refl (λ b ids. edits_keep_limits l full b xs ids)
  where
    by : (r : Result Book Refusal) → step_by l full base x ≡ r
        → ((b : Book) → IsDistinct bytes_eq (event_ids b) → IsWithin l full b → IsWithin l full (after_by l full b xs))
        → IsWithin l full (after_by l full (result_unwrap_or r base) xs)
    by (Ok new) e rest =
        let (none, same) = accepted_by l full base new x e in
        subst (λ b. IsWithin l full (after_by l full b xs)) same
        (rest (made base x) (made_ids l full base d x none) (made_within l full base d w x none))
    by (Err fault) e rest = rest base d w

pub books_are_within : BooksAreWithin
unfolding after_from IsDistinct
books_are_within edits =
    edits_keep_limits limits MOST_VERSION empty edits tt
    (record { programs = omega arith; vens = omega arith; resources = omega arith; events = omega arith; entries = omega arith; version = omega arith })
