-- The touches between two books are those of the edit's row.
use Rattle.std.proofs.Common.{◌≡◌, ℕ, ◌+◌, ◌≤◌, ◌==◌, Bool, true, false, not, if◌then◌else◌, List, [], ◌∷◌, ◌++◌, map, Option, Some, None, refl, ap, sym, subst, ◌∙◌, filter, append-nil, arith, eq-eqb, eqb-true}
use Rattle.std.specs.Str.{bytes_eq}
use Rattle.std.specs.Bool.{then_some}
use Rattle.std.specs.Option.{option_map_or, option_and_then, option_map}
use Rattle.adr_refusal.specs.declared.refusal.Refusal.TheVariants.{Exists}
use Rattle.adr_value.specs.Limits.{Limits}
use Rattle.adr_object.specs.declared.party.Program.{Program}
use Rattle.adr_object.specs.declared.party.Ven.{Ven}
use Rattle.adr_object.specs.declared.party.Resource.{Resource}
use Rattle.adr_object.specs.declared.object.Object.TheVariants.{Program as program, Event as event, Ven as ven, Resource as resource}
use Rattle.adr_object.specs.declared.object.Kind.TheVariants.{Program as program_kind, Event as event_kind, Ven as ven_kind, Resource as resource_kind}
use Rattle.adr_object.specs.declared.object.Edit.{Edit}
use Rattle.adr_object.specs.declared.object.Edit.TheVariants.{Create, Change, Remove}
use Rattle.adr_model.specs.declared.touch.Touch.{Touch}
use Rattle.adr_model.specs.declared.written.Written.{Written}
use Rattle.adr_model.specs.Matching.{applies}
use Rattle.adr_model.specs.Book.{Book, program_by, ven_by, resource_by, event_by}
use Rattle.adr_model.specs.Edits.{faults_by, made, has_id}
use Rattle.adr_model.proofs.EditLemmas.{accepted_by}
use Rattle.adr_model.specs.Governor.{applies_to}
use Rattle.adr_model.specs.Touches.{applying, touches, touches_of, touches_between, ids_of_both}
use Rattle.adr_model.specs.Whole.{event_ids, IsWhole}
use Rattle.adr_repair.specs.Table.{spans, spans_if_differs, is_event_of, is_resource_of, touched_at, table, TouchesAreTheTable}
use Rattle.adr_model.proofs.Lists.{flat_map-same, none_passes, same_bytes}
use Rattle.adr_model.proofs.Keyed.{program_id, ven_id, resource_id, event_id, by_key, found, put}
use Rattle.adr_repair.proofs.Candidates.{no_resource, no_event, applying_event, applying_there}
use Rattle.adr_model.proofs.Steps.{no_fault}
use Rattle.adr_repair.proofs.Lookups.{apart_flip, none_found, push_other, push_found, put_other, put_own, drop_other, drop_own}
use Rattle.adr_model.proofs.Whole.{created_parts, unnamed}

-- ---- two writes

self : (r : List ℕ) (a : Option Written) → touches_between r a a ≡ []
self r None = refl
self r (Some w) = let h : (w.written == w.written) ≡ true = eq-eqb w.written w.written refl in rw h

unmoved : (r : List ℕ) (a b : Option Written) → b ≡ a → touches_between r a b ≡ []
unmoved r a b h = rw h (self r a)

none_before : (r : List ℕ) (a b : Option Written) → a ≡ None → touches_between r a b ≡ spans r b
none_before r a b h = rw h (by b)
  where
    by : (o : Option Written) → touches_between r None o ≡ spans r o
    by None = refl
    by (Some w) = refl

none_after : (r : List ℕ) (a b : Option Written) → b ≡ None → touches_between r a b ≡ spans r a
none_after r a b h = rw h (by a)
  where
    by : (o : Option Written) → touches_between r o None ≡ spans r o
    by None = refl
    by (Some w) = refl

-- one write that applies before or after
one_event : (r : List ℕ) (a b : Option Written) → ((w v : Written) → a ≡ Some w → b ≡ Some v → w ≡ v) → touches_between r a b ≡ spans_if_differs r a b
one_event r None None h = refl
one_event r None (Some v) h = refl
one_event r (Some w) None h = refl
one_event r (Some w) (Some v) h = let e : (w.written == v.written) ≡ true = eq-eqb w.written v.written (ap (λ (z : Written). z.written) (h w v refl refl)) in rw e

-- two writes with numbers of their own
two_writes : (r : List ℕ) (a b : Option Written) → ((w v : Written) → a ≡ Some w → b ≡ Some v → w.written ≡ v.written → ⊥) → touches_between r a b ≡ spans r a ++ spans r b
two_writes r None None h = refl
two_writes r None (Some v) h = refl
two_writes r (Some w) None h = sym (append-nil (touches_of r w))
two_writes r (Some w) (Some v) h = by (w.written == v.written) refl
  where
    by : (b : Bool) → (w.written == v.written) ≡ b → (if b then [] else (touches_of r w ++ touches_of r v)) ≡ touches_of r w ++ touches_of r v
    by true e = absurd (h w v refl refl (eqb-true w.written v.written e))
    by false e = refl

-- ---- what applies, in a changed book

same_applies : (o : Option Resource) (p : Option Written) (a b : Resource → Written → Bool) → ((x : Resource) (w : Written) → o ≡ Some x → p ≡ Some w → a x w ≡ b x w)
    → option_and_then (λ x. option_and_then (λ w. then_some (a x w) w) p) o ≡ option_and_then (λ x. option_and_then (λ w. then_some (b x w) w) p) o
same_applies None p a b h = refl
same_applies (Some x) None a b h = refl
same_applies (Some x) (Some w) a b h = ap (λ (t : Bool). then_some t w) (h x w refl refl)

abbrev applies_with : Option Program → Option Ven → Resource → Written → Bool
applies_with p v x w =
    option_map_or applies (option_and_then (λ program. option_map (λ ven. record { program = program; event = w.event; ven = ven; resource = x }) v) p) false

module _ (old : Book) (r e : List ℕ) where
  with_programs : (ps : List Program) (n : ℕ) → ((w : Written) → event_by old e ≡ Some w → by_key program_id w.event.program_id ps ≡ program_by old w.event.program_id)
      → applying (record old { programs = ps; version = n }) r e ≡ applying old r e
  with_programs ps n h =
      same_applies (resource_by old r) (event_by old e) (applies_to (record old { programs = ps; version = n })) (applies_to old)
      (λ x w i j. ap (λ (q : Option Program). applies_with q (ven_by old x.ven_id) x w) (h w j))

  with_vens : (vs : List Ven) (n : ℕ) → ((x : Resource) → resource_by old r ≡ Some x → by_key ven_id x.ven_id vs ≡ ven_by old x.ven_id)
      → applying (record old { vens = vs; version = n }) r e ≡ applying old r e
  with_vens vs n h =
      same_applies (resource_by old r) (event_by old e) (applies_to (record old { vens = vs; version = n })) (applies_to old)
      (λ x w i j. ap (λ (q : Option Ven). applies_with (program_by old w.event.program_id) q x w) (h x i))

  with_resources : (rs : List Resource) (n : ℕ) → by_key resource_id r rs ≡ resource_by old r → applying (record old { resources = rs; version = n }) r e ≡ applying old r e
  with_resources rs n h = ap (λ (o : Option Resource). option_and_then (λ x. option_and_then (λ w. then_some (applies_to old x w) w) (event_by old e)) o) h

  with_events : (es : List Written) (n : ℕ) → by_key event_id e es ≡ event_by old e → applying (record old { events = es; version = n }) r e ≡ applying old r e
  with_events es n h = ap (λ (o : Option Written). option_and_then (λ x. option_and_then (λ w. then_some (applies_to old x w) w) o) (resource_by old r)) h

-- an event that is the same in both books
same_event : (old new : Book) (r e : List ℕ) → event_by new e ≡ event_by old e → (w v : Written) → applying old r e ≡ Some w → applying new r e ≡ Some v → w ≡ v
same_event old new r e h w v a b = let s : Some w ≡ Some v = sym (applying_event old r e w a) ∙ sym h ∙ applying_event new r e v b in cc

-- ---- the rows

abbrev IsRow : Book → Edit → Type 0
IsRow old edit = (r e : List ℕ) → touches_between r (applying old r e) (applying (made old edit) r e) ≡ touched_at old (made old edit) edit r e

-- a row that asks a test
asked : (r e : List ℕ) (old new : Book) (row : List Touch) (b : Bool)
    → (b ≡ true → touches_between r (applying old r e) (applying new r e) ≡ row)
    → (b ≡ false → applying new r e ≡ applying old r e)
    → touches_between r (applying old r e) (applying new r e) ≡ (if b then row else [])
asked r e old new row true h k = h refl
asked r e old new row false h k = unmoved r (applying old r e) (applying new r e) (k refl)

module _ (most : Limits) (full : ℕ) where
  rows : (old : Book) → IsWhole old → (edit : Edit) → faults_by most full old edit ≡ [] → IsRow old edit
  unfolding put
  rows old s (Create (program p)) f r e =
      unmoved r (applying old r e) _
      (with_programs old r e (old.programs ++ p ∷ []) (old.version + 1)
      (λ w j. push_found program_id w.event.program_id p old.programs (s.programs w (found event_id e old.events w j).0)))
  rows old s (Create (ven v)) f r e =
      unmoved r (applying old r e) _
      (with_vens old r e (old.vens ++ v ∷ []) (old.version + 1)
      (λ x j. push_found ven_id x.ven_id v old.vens (s.vens x (found resource_id r old.resources x j).0)))
  rows old s (Remove program_kind id) f r e =
      unmoved r (applying old r e) _
      (with_programs old r e (filter (λ q. not (bytes_eq id q.id)) old.programs) (old.version + 1)
      (λ w j. drop_other program_id id w.event.program_id old.programs
      (none_passes (λ v. bytes_eq id v.event.program_id) old.events (unnamed most full old program_kind id f) w (found event_id e old.events w j).0)))
  rows old s (Remove ven_kind id) f r e =
      unmoved r (applying old r e) _
      (with_vens old r e (filter (λ q. not (bytes_eq id q.id)) old.vens) (old.version + 1)
      (λ x j. drop_other ven_id id x.ven_id old.vens
      (none_passes (λ y. bytes_eq id y.ven_id) old.resources (unnamed most full old ven_kind id f) x (found resource_id r old.resources x j).0)))
  rows old s (Change (program p)) f r e =
      asked r e old (made old (Change (program p))) _ (is_event_of old p.id e)
      (λ t. one_event r (applying old r e) (applying (made old (Change (program p))) r e) (same_event old (made old (Change (program p))) r e refl))
      (λ t. with_programs old r e (put program_id p old.programs) (old.version + 1)
      (λ w j. put_other program_id w.event.program_id p old.programs (subst (λ o. option_map_or (λ v. bytes_eq p.id v.event.program_id) o false ≡ false) j t)))
  rows old s (Change (ven v)) f r e =
      asked r e old (made old (Change (ven v))) _ (is_resource_of old v.id r)
      (λ t. one_event r (applying old r e) (applying (made old (Change (ven v))) r e) (same_event old (made old (Change (ven v))) r e refl))
      (λ t. with_vens old r e (put ven_id v old.vens) (old.version + 1)
      (λ x j. put_other ven_id x.ven_id v old.vens (subst (λ o. option_map_or (λ y. bytes_eq v.id y.ven_id) o false ≡ false) j t)))
  rows old s (Change (resource x)) f r e =
      asked r e old (made old (Change (resource x))) _ (bytes_eq x.id r)
      (λ t. one_event r (applying old r e) (applying (made old (Change (resource x))) r e) (same_event old (made old (Change (resource x))) r e refl))
      (λ t. with_resources old r e (put resource_id x old.resources) (old.version + 1) (put_other resource_id r x old.resources t))
  rows old s (Create (resource x)) f r e =
      asked r e old (made old (Create (resource x))) _ (bytes_eq x.id r)
      (λ t. none_before r (applying old r e) (applying (made old (Create (resource x))) r e)
      (no_resource old r e (subst (λ i. resource_by old i ≡ None) (same_bytes x.id r t)
      (none_found (resource_by old x.id) (no_fault (has_id old resource_kind x.id) Exists (created_parts most full old (resource x) f).1)))))
      (λ t. with_resources old r e (old.resources ++ x ∷ []) (old.version + 1) (push_other resource_id r x old.resources (apart_flip x.id r t)))
  rows old s (Remove resource_kind id) f r e =
      asked r e old (made old (Remove resource_kind id)) _ (bytes_eq id r)
      (λ t. none_after r (applying old r e) (applying (made old (Remove resource_kind id)) r e)
      (no_resource (made old (Remove resource_kind id)) r e
      (subst (λ i. by_key resource_id i (filter (λ q. not (bytes_eq id q.id)) old.resources) ≡ None) (same_bytes id r t) (drop_own resource_id id old.resources))))
      (λ t. with_resources old r e (filter (λ q. not (bytes_eq id q.id)) old.resources) (old.version + 1) (drop_other resource_id id r old.resources t))
  rows old s (Create (event x)) f r e =
      asked r e old (made old (Create (event x))) _ (bytes_eq x.id e)
      (λ t. none_before r (applying old r e) (applying (made old (Create (event x))) r e)
      (no_event old r e (subst (λ i. event_by old i ≡ None) (same_bytes x.id e t)
      (none_found (event_by old x.id) (no_fault (has_id old event_kind x.id) Exists (created_parts most full old (event x) f).1)))))
      (λ t. with_events old r e (old.events ++ record { event = x; written = old.version + 1 } ∷ []) (old.version + 1)
      (push_other event_id e (record { event = x; written = old.version + 1 }) old.events (apart_flip x.id e t)))
  rows old s (Change (event x)) f r e =
      asked r e old (made old (Change (event x))) _ (bytes_eq x.id e)
      (λ t. two_writes r (applying old r e) (applying (made old (Change (event x))) r e)
      (λ w v a b n.
      let y : Written = record { event = x; written = old.version + 1 } in
      let p = applying_there (made old (Change (event x))) r e v b in
      let own : y ≡ v = put_own event_id y old.events v p.0 (subst (λ i. bytes_eq x.id i ≡ true) (sym p.1) t) in
      let number : old.version + 1 ≡ v.written = ap (λ (z : Written). z.written) own in
      let least : w.written ≤ old.version = s.sound.numbers w (applying_there old r e w a).0 in
      omega arith))
      (λ t. with_events old r e (put event_id (record { event = x; written = old.version + 1 }) old.events) (old.version + 1)
      (put_other event_id e (record { event = x; written = old.version + 1 }) old.events t))
  rows old s (Remove event_kind id) f r e =
      asked r e old (made old (Remove event_kind id)) _ (bytes_eq id e)
      (λ t. none_after r (applying old r e) (applying (made old (Remove event_kind id)) r e)
      (no_event (made old (Remove event_kind id)) r e
      (subst (λ i. by_key event_id i (filter (λ w. not (bytes_eq id w.event.id)) old.events) ≡ None) (same_bytes id e t) (drop_own event_id id old.events))))
      (λ t. with_events old r e (filter (λ w. not (bytes_eq id w.event.id)) old.events) (old.version + 1) (drop_other event_id id e old.events t))

every_row : (old new : Book) (edit : Edit) → ((r e : List ℕ) → touches_between r (applying old r e) (applying new r e) ≡ touched_at old new edit r e) → touches old new ≡ table old new edit
unfolding touches
every_row old new edit k =
    flat_map-same _ _ (ids_of_both (map (λ x. x.id) old.resources) (map (λ x. x.id) new.resources))
    (λ r m. flat_map-same _ _ (ids_of_both (event_ids old) (event_ids new)) (λ e n. k r e))

pub touches_by_table : TouchesAreTheTable
touches_by_table most full old new edit s h =
    let a = accepted_by most full old new edit h in
    every_row old new edit
    (subst (λ b. (r e : List ℕ) → touches_between r (applying old r e) (applying b r e) ≡ touched_at old b edit r e) a.1 (rows most full old s edit a.0))
