-- An accepted edit of an event exchanges events.
use Rattle.std.proofs.Common.{◌≡◌, ℕ, ◌+◌, ◌≤◌, Bool, true, false, not, if◌then◌else◌, List, [], ◌∷◌, ◌++◌, Option, Some, None, is_some, refl, ap, sym, subst, ◌∙◌, filter, arith, ◌⊎◌, inl, inr, Ok, ◌||◌, nat_le}
use Rattle.std.specs.Str.{bytes_eq}
use Rattle.std.proofs.lemmas.Bool.{not_from_false, not-false}
use Rattle.adr_value.specs.declared.limits.TheConstants.{MOST_VERSION}
use Rattle.adr_refusal.specs.declared.refusal.Refusal.{Refusal}
use Rattle.adr_refusal.specs.declared.refusal.Refusal.TheVariants.{Exists, NotThere, Full}
use Rattle.adr_object.specs.declared.event.Event.{Event}
use Rattle.adr_object.specs.declared.object.Object.TheVariants.{Program as program, Event as event, Ven as ven, Resource as resource}
use Rattle.adr_object.specs.declared.object.Kind.TheVariants.{Program as program_kind, Event as event_kind, Ven as ven_kind, Resource as resource_kind}
use Rattle.adr_object.specs.declared.object.Edit.{Edit}
use Rattle.adr_object.specs.declared.object.Edit.TheVariants.{Create, Change, Remove}
use Rattle.adr_model.specs.declared.written.Written.{Written}
use Rattle.adr_model.specs.Book.{Book, event_by}
use Rattle.adr_model.specs.Edits.{step, faults, made, has_id, layout_faults, reference_faults, fault_if, is_full_for}
use Rattle.adr_model.specs.Lists.{In}
use Rattle.adr_model.specs.Whole.{IsSound}
use Rattle.adr_model.proofs.EditLemmas.{accepted}
use Rattle.adr_model.proofs.Events.{one_write}
use Rattle.adr_model.proofs.Keyed.{event_id, found, own_key, put, In-from_put}
use Rattle.adr_model.proofs.Lists.{In-append_left, In-append_right, In-append_cases, In-filter, In-from_filter, same_bytes, bytes_eq_self}
use Rattle.adr_model.proofs.Steps.{no_fault, no_faults_before, no_faults_after}
use Rattle.adr_repair.proofs.Lookups.{drop_own, none_found, put_own}
use Rattle.adr_desk.specs.Edited.{gone_of, come_of, HaveOneId, IsExchanged}
use Rattle.adr_regroup.specs.Kinds.{kind_of_edit}

-- ---- what a changed list holds

module _ (x : Written) where
  put_keeps : (es : List Written) (w : Written) → In w es → bytes_eq x.event.id w.event.id ≡ false → In w (put event_id x es)
  unfolding put
  put_keeps [] w m h = absurd m
  put_keeps (y ∷ ys) w (inl same) h = by (bytes_eq x.event.id y.event.id) (ap (λ (z : Written). bytes_eq x.event.id z.event.id) same ∙ h)
    where
      by : (b : Bool) → b ≡ false → ((if b then x else y) ≡ w) ⊎ In w (put event_id x ys)
      by true t = absurd (cc)
      by false t = inl same
  put_keeps (y ∷ ys) w (inr m) h = inr (put_keeps ys w m h)

  put_has : (es : List Written) (w : Written) → In w es → bytes_eq x.event.id w.event.id ≡ true → In x (put event_id x es)
  unfolding put
  put_has [] w m h = absurd m
  put_has (y ∷ ys) w (inl same) h = by (bytes_eq x.event.id y.event.id) (ap (λ (z : Written). bytes_eq x.event.id z.event.id) same ∙ h)
    where
      by : (b : Bool) → b ≡ true → ((if b then x else y) ≡ x) ⊎ In x (put event_id x ys)
      by true t = inl refl
      by false t = absurd (cc)
  put_has (y ∷ ys) w (inr m) h = inr (put_has ys w m h)

some_there : (o : Option Written) → is_some o ≡ true → (w : Written) × (o ≡ Some w)
some_there None h = absurd (cc)
some_there (Some w) h = (w, refl)

one_some : (w v : Written) → Some w ≡ Some v → w ≡ v
one_some w v h = cc

module _ (old : Book) (s : IsSound old) where
  -- the event with the id of one that is there is that one
  own : (w : Written) (id : List ℕ) → In w old.events → bytes_eq id w.event.id ≡ true → event_by old id ≡ Some w
  own w id m t = subst (λ i. event_by old i ≡ Some w) (sym (same_bytes id w.event.id t)) (own_key event_id old.events s.ids w m)

  not_next : (w : Written) → In w old.events → w.written ≡ old.version + 1 → ⊥
  not_next w m e = let h : w.written ≤ old.version = s.numbers w m in omega arith

  one_of : (w v : Written) → In w old.events → In v old.events → w.written ≡ v.written → w ≡ v
  one_of = one_write old.events s.writes

  fresh_next : (e : Event) (w v : Written) → In w old.events → Some (record { event = e; written = old.version + 1 }) ≡ Some v → w.written ≡ v.written → ⊥
  fresh_next e w v m h same = not_next w m (same ∙ ap (λ (z : Written). z.written) (sym (one_some (record { event = e; written = old.version + 1 }) v h)))

  -- one event more
  created_exchange : (e : Event) → IsExchanged old (made old (Create (event e))) (gone_of old (Create (event e))) (come_of old (Create (event e)))
  created_exchange e = record {
    kept = λ w m. inl (In-append_left w old.events (record { event = e; written = old.version + 1 } ∷ []) m);
    were = λ w h. absurd (cc);
    are = λ w h. In-append_right w old.events (record { event = e; written = old.version + 1 } ∷ []) (inl (one_some (record { event = e; written = old.version + 1 }) w h));
    was = λ w m. by w (In-append_cases w old.events (record { event = e; written = old.version + 1 } ∷ []) m);
    fresh = λ w v m h same. fresh_next e w v m h same;
    one = one_of;
    resources = refl;
    applies = λ r w. refl;
  }
    where
      by : (w : Written) → In w old.events ⊎ ((record { event = e; written = old.version + 1 } ≡ w) ⊎ ⊥) → (In w old.events × (None ≡ Some w → ⊥)) ⊎ (come_of old (Create (event e)) ≡ Some w)
      by w (inl m) = inl (m, λ h. absurd (cc))
      by w (inr (inl e)) = inr (ap (λ (z : Written). Some z) e)
      by w (inr (inr n)) = absurd n

  -- one written again
  changed_exchange : (e : Event) → is_some (event_by old e.id) ≡ true → IsExchanged old (made old (Change (event e))) (gone_of old (Change (event e))) (come_of old (Change (event e)))
  unfolding put
  changed_exchange e known = record {
    kept = λ w m. which w m (bytes_eq e.id w.event.id) refl;
    were = λ w h. (found event_id e.id old.events w h).0;
    are = λ w h. there w (one_some (record { event = e; written = old.version + 1 }) w h) (some_there (event_by old e.id) known);
    was = λ w m. turned w m (In-from_put event_id (record { event = e; written = old.version + 1 }) old.events w m);
    fresh = λ w v m h same. fresh_next e w v m h same;
    one = one_of;
    resources = refl;
    applies = λ r w. refl;
  }
    where
      which : (w : Written) → In w old.events → (b : Bool) → bytes_eq e.id w.event.id ≡ b
          → In w (put event_id (record { event = e; written = old.version + 1 }) old.events) ⊎ (event_by old e.id ≡ Some w)
      which w m true t = inr (own w e.id m t)
      which w m false t = inl (put_keeps (record { event = e; written = old.version + 1 }) old.events w m t)

      -- what is in the new list with the old event's id is the new event
      other : (w : Written) → In w old.events → In w (put event_id (record { event = e; written = old.version + 1 }) old.events) → event_by old e.id ≡ Some w → ⊥
      other w m k h =
          let i : w.event.id ≡ e.id = (found event_id e.id old.events w h).1 in
          let it : record { event = e; written = old.version + 1 } ≡ w =
          put_own event_id (record { event = e; written = old.version + 1 }) old.events w k (subst (λ j. bytes_eq e.id j ≡ true) (sym i) (bytes_eq_self e.id)) in
          not_next w m (ap (λ (z : Written). z.written) (sym it))

      turned : (w : Written) → In w (put event_id (record { event = e; written = old.version + 1 }) old.events) → (record { event = e; written = old.version + 1 } ≡ w) ⊎ In w old.events
          → (In w old.events × (event_by old e.id ≡ Some w → ⊥)) ⊎ (come_of old (Change (event e)) ≡ Some w)
      turned w k (inl same) = inr (ap (λ (z : Written). Some z) same)
      turned w k (inr m) = inl (m, other w m k)

      there : (w : Written) → record { event = e; written = old.version + 1 } ≡ w → (v : Written) × (event_by old e.id ≡ Some v) → In w (put event_id (record { event = e; written = old.version + 1 }) old.events)
      there w same r =
          let f = found event_id e.id old.events r.0 r.1 in
          subst (λ (z : Written). In z (put event_id (record { event = e; written = old.version + 1 }) old.events)) same
          (put_has (record { event = e; written = old.version + 1 }) old.events r.0 f.0 (subst (λ j. bytes_eq e.id j ≡ true) (sym f.1) (bytes_eq_self e.id)))

  -- one taken out
  removed_exchange : (id : List ℕ) → IsExchanged old (made old (Remove event_kind id)) (gone_of old (Remove event_kind id)) (come_of old (Remove event_kind id))
  removed_exchange id = record {
    kept = λ w m. which w m (bytes_eq id w.event.id) refl;
    were = λ w h. (found event_id id old.events w h).0;
    are = λ w h. absurd (cc);
    was = λ w m. let f = In-from_filter (λ (v : Written). not (bytes_eq id v.event.id)) old.events w m in inl (f.0, other w f.1);
    fresh = λ w v m h same. absurd (cc);
    one = one_of;
    resources = refl;
    applies = λ r w. refl;
  }
    where
      which : (w : Written) → In w old.events → (b : Bool) → bytes_eq id w.event.id ≡ b
          → In w (filter (λ (v : Written). not (bytes_eq id v.event.id)) old.events) ⊎ (event_by old id ≡ Some w)
      which w m true t = inr (own w id m t)
      which w m false t = inl (In-filter (λ (v : Written). not (bytes_eq id v.event.id)) old.events w m (not_from_false (bytes_eq id w.event.id) t))

      other : (w : Written) → not (bytes_eq id w.event.id) ≡ true → event_by old id ≡ Some w → ⊥
      other w k h =
          let i : w.event.id ≡ id = (found event_id id old.events w h).1 in
          let same : bytes_eq id w.event.id ≡ true = subst (λ j. bytes_eq id j ≡ true) (sym i) (bytes_eq_self id) in
          cc

-- an edit that is accepted has its object there
there_to_change : (a b c d : List Refusal) → ((a ++ b) ++ c) ++ d ≡ [] → b ≡ []
there_to_change a b c d h = no_faults_after a b (no_faults_before (a ++ b) c (no_faults_before ((a ++ b) ++ c) d h))

event_there : (old : Book) (e : Event) → faults old (Change (event e)) ≡ [] → is_some (event_by old e.id) ≡ true
event_there old e g =
    not-false (has_id old event_kind e.id)
    (no_fault (not (has_id old event_kind e.id)) NotThere
    (let first : List Refusal = layout_faults (event e) in
    let second : List Refusal = fault_if (not (has_id old event_kind e.id)) NotThere in
    let third : List Refusal = reference_faults old (event e) in
    let fourth : List Refusal = fault_if (nat_le MOST_VERSION old.version || is_full_for old (Change (event e))) Full in
    there_to_change first second third fourth g))

-- an accepted edit of an event
pub event_exchange : (old new : Book) (edit : Edit) → IsSound old → kind_of_edit edit ≡ event_kind → step old edit ≡ Ok new → IsExchanged old new (gone_of old edit) (come_of old edit)
event_exchange old new edit s of_event h = let a = accepted old new edit h in subst (λ (b : Book). IsExchanged old b (gone_of old edit) (come_of old edit)) a.1 (by edit of_event a.0)
  where
    by : (x : Edit) → kind_of_edit x ≡ event_kind → faults old x ≡ [] → IsExchanged old (made old x) (gone_of old x) (come_of old x)
    by (Create (event e)) o f = created_exchange old s e
    by (Create (program p)) o f = absurd (cc)
    by (Create (ven v)) o f = absurd (cc)
    by (Create (resource r)) o f = absurd (cc)
    by (Change (event e)) o f = changed_exchange old s e (event_there old e f)
    by (Change (program p)) o f = absurd (cc)
    by (Change (ven v)) o f = absurd (cc)
    by (Change (resource r)) o f = absurd (cc)
    by (Remove event_kind id) o f = removed_exchange old s id
    by (Remove program_kind id) o f = absurd (cc)
    by (Remove ven_kind id) o f = absurd (cc)
    by (Remove resource_kind id) o f = absurd (cc)

-- ---- by one id

event_new : (old : Book) (e : Event) → faults old (Create (event e)) ≡ [] → event_by old e.id ≡ None
event_new old e g =
    none_found (event_by old e.id)
    (no_fault (is_some (event_by old e.id)) Exists
    (let first : List Refusal = layout_faults (event e) in
    let second : List Refusal = fault_if (is_some (event_by old e.id)) Exists in
    let third : List Refusal = reference_faults old (event e) in
    let fourth : List Refusal = fault_if (nat_le MOST_VERSION old.version || is_full_for old (Create (event e))) Full in
    there_to_change first second third fourth g))

-- the id of the edit's event leads to the one that goes, and then to the one that comes
pub one_id : (old new : Book) (edit : Edit) → IsSound old → IsSound new → kind_of_edit edit ≡ event_kind → step old edit ≡ Ok new → HaveOneId old new (gone_of old edit) (come_of old edit)
one_id old new edit s t of_event h = by edit of_event h
  where
    come_found : (x : Edit) (e : Event) → kind_of_edit x ≡ event_kind → step old x ≡ Ok new → come_of old x ≡ Some (record { event = e; written = old.version + 1 }) → event_by new e.id ≡ come_of old x
    come_found x e o k is =
        own_key event_id new.events t.ids (record { event = e; written = old.version + 1 }) ((event_exchange old new x s o k).are (record { event = e; written = old.version + 1 }) is) ∙ sym is

    by : (x : Edit) → kind_of_edit x ≡ event_kind → step old x ≡ Ok new → HaveOneId old new (gone_of old x) (come_of old x)
    by (Create (event e)) o k = (e.id, event_new old e (accepted old new (Create (event e)) k).0, come_found (Create (event e)) e o k refl)
    by (Create (program p)) o k = absurd (cc)
    by (Create (ven v)) o k = absurd (cc)
    by (Create (resource r)) o k = absurd (cc)
    by (Change (event e)) o k = (e.id, refl, come_found (Change (event e)) e o k refl)
    by (Change (program p)) o k = absurd (cc)
    by (Change (ven v)) o k = absurd (cc)
    by (Change (resource r)) o k = absurd (cc)
    by (Remove event_kind id) o k = (id, refl, subst (λ (b : Book). event_by b id ≡ None) (accepted old new (Remove event_kind id) k).1 (drop_own event_id id old.events))
    by (Remove program_kind id) o k = absurd (cc)
    by (Remove ven_kind id) o k = absurd (cc)
    by (Remove resource_kind id) o k = absurd (cc)
