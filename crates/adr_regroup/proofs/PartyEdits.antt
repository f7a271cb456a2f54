-- Edits of vens and resources: what they leave as it was, and which places they leave to be seen to.
use Rattle.std.proofs.Common.{◌≡◌, ℕ, zero, suc, ◌+◌, ◌<◌, ◌==◌, ◌||◌, inl, inr, Bool, true, false, not, cond, if◌then◌else◌, List, [], ◌∷◌, ◌++◌, length, map, filter, remove, slice_get, Option, Some, None, is_some, Result, Ok, Err, IsOk, refl, ap, sym, subst, ◌∙◌, arith, eqb-true, eq-eqb, nat_le}
use Rattle.std.proofs.lemmas.Bool.{and_parts, both_ways, not-false}
use Rattle.std.proofs.lemmas.List.{length-map}
use Rattle.std.proofs.lemmas.List.FromFn.{length-range_with_len}
use Rattle.std.proofs.lemmas.Option.{slice_get_within, slice_get-map}
use Rattle.std.proofs.lemmas.Slice.Eq.{bytes_eq-Decides}
use Rattle.std.specs.List.{AllByRecursion, IsDistinct, range_with_len}
use Rattle.std.specs.Option.{option_map, option_map_or}
use Rattle.std.specs.Str.{bytes_eq}
use Rattle.adr_value.specs.declared.limits.TheConstants.{MOST_VERSION}
use Rattle.adr_refusal.specs.declared.refusal.Refusal.{Refusal}
use Rattle.adr_refusal.specs.declared.refusal.Refusal.TheVariants.{Exists, NotThere, InUse, Full}
use Rattle.adr_object.specs.declared.object.Object.{Object}
use Rattle.adr_object.specs.declared.object.Object.TheVariants.{Program as program_object, Event as event_object, Ven as ven_object, Resource as resource_object}
use Rattle.adr_object.specs.declared.object.Kind.{Kind}
use Rattle.adr_object.specs.declared.object.Kind.TheVariants.{Program as program_kind, Event as event_kind, Ven as ven_kind, Resource as resource_kind}
use Rattle.adr_object.specs.declared.object.Edit.{Edit}
use Rattle.adr_object.specs.declared.object.Edit.TheVariants.{Create, Change, Remove}
use Rattle.adr_object.specs.Object.{id_of}
use Rattle.adr_object.specs.declared.party.Resource.{Resource}
use Rattle.adr_object.specs.declared.party.Ven.{Ven}
use Rattle.adr_model.specs.declared.entry.Tie.{Tie}
use Rattle.adr_model.specs.declared.written.Written.{Written}
use Rattle.adr_model.specs.Book.{Book, resource_by, ven_by}
use Rattle.adr_model.specs.Edits.{faults, made, step, has_id, is_named, layout_faults, reference_faults, fault_if, is_full_for, put_at}
use Rattle.adr_model.specs.Governor.{applies_to}
use Rattle.adr_model.specs.Lists.{In}
use Rattle.adr_model.specs.Whole.{IsWhole}
use Rattle.adr_model.proofs.EditLemmas.{accepted}
use Rattle.adr_model.proofs.Lists.{same_bytes}
use Rattle.adr_model.proofs.Steps.{no_fault, no_faults_before, no_faults_after}
use Rattle.adr_audience.specs.Rows.{is_of_ven, places_of_ven}
use Rattle.adr_audience.proofs.Followed.{changed_is_there}
use Rattle.adr_audience.proofs.Matched.{bytes_eq-flip}
use Rattle.adr_audience.proofs.OfVen.{own_within}
use Rattle.adr_audience.proofs.Placed.{by_id, found_beside, found_other, none_has}
use Rattle.adr_group.specs.Group.{Lines}
use Rattle.adr_schedule.specs.Moves.{is_among}
use Rattle.adr_schedule.specs.Place.{HasPlace, LacksPlace, StaysRight}
use Rattle.adr_schedule.specs.Seating.{group_at, has_at, AreRight, AreSeatedFor, Seating}
use Rattle.adr_lines.specs.Right.{has_number}
use Rattle.adr_schedule.proofs.Places.{after_gone, count_gone, was_at}
use Rattle.adr_regroup.specs.Party.{id_of_edit, AreOfVen, AreSeatedBut, KeepsEvents}
use Rattle.adr_regroup.proofs.Applying.{among_filter, fewer, passes}
use Rattle.adr_regroup.proofs.Placing.{has_group, has_place, number_at}
use Rattle.adr_regroup.proofs.Reseated.{applies_same}
use Rattle.adr_regroup.proofs.Sums.{none_stand, range_stands}
use Rattle.adr_regroup.specs.Kinds.{kind_of_edit}

-- ---- what the edits leave

made_keeps_ven : (old : Book) (edit : Edit) → kind_of_edit edit ≡ ven_kind → KeepsEvents old (made old edit)
made_keeps_ven old (Create (ven_object v)) h = record { events = refl; programs = refl }
made_keeps_ven old (Create (program_object p)) h = absurd (cc)
made_keeps_ven old (Create (event_object e)) h = absurd (cc)
made_keeps_ven old (Create (resource_object r)) h = absurd (cc)
made_keeps_ven old (Change (ven_object v)) h = record { events = refl; programs = refl }
made_keeps_ven old (Change (program_object p)) h = absurd (cc)
made_keeps_ven old (Change (event_object e)) h = absurd (cc)
made_keeps_ven old (Change (resource_object r)) h = absurd (cc)
made_keeps_ven old (Remove ven_kind id) h = record { events = refl; programs = refl }
made_keeps_ven old (Remove program_kind id) h = absurd (cc)
made_keeps_ven old (Remove event_kind id) h = absurd (cc)
made_keeps_ven old (Remove resource_kind id) h = absurd (cc)

made_keeps_resource : (old : Book) (edit : Edit) → kind_of_edit edit ≡ resource_kind → KeepsEvents old (made old edit)
made_keeps_resource old (Create (resource_object r)) h = record { events = refl; programs = refl }
made_keeps_resource old (Create (program_object p)) h = absurd (cc)
made_keeps_resource old (Create (event_object e)) h = absurd (cc)
made_keeps_resource old (Create (ven_object v)) h = absurd (cc)
made_keeps_resource old (Change (resource_object r)) h = record { events = refl; programs = refl }
made_keeps_resource old (Change (program_object p)) h = absurd (cc)
made_keeps_resource old (Change (event_object e)) h = absurd (cc)
made_keeps_resource old (Change (ven_object v)) h = absurd (cc)
made_keeps_resource old (Remove resource_kind id) h = record { events = refl; programs = refl }
made_keeps_resource old (Remove program_kind id) h = absurd (cc)
made_keeps_resource old (Remove event_kind id) h = absurd (cc)
made_keeps_resource old (Remove ven_kind id) h = absurd (cc)

pub ven_keeps : (old new : Book) (edit : Edit) → kind_of_edit edit ≡ ven_kind → step old edit ≡ Ok new → KeepsEvents old new
ven_keeps old new edit h a = subst (λ b. KeepsEvents old b) (accepted old new edit a).1 (made_keeps_ven old edit h)

pub resource_keeps : (old new : Book) (edit : Edit) → kind_of_edit edit ≡ resource_kind → step old edit ≡ Ok new → KeepsEvents old new
resource_keeps old new edit h a = subst (λ b. KeepsEvents old b) (accepted old new edit a).1 (made_keeps_resource old edit h)

-- ---- the places of a ven's resources

-- a ven that comes has no resources yet
pub second_of : (a b c d : List Refusal) → ((a ++ b) ++ c) ++ d ≡ [] → b ≡ []
second_of a b c d h = no_faults_after a b (no_faults_before (a ++ b) c (no_faults_before ((a ++ b) ++ c) d h))

ven_new : (old : Book) (v : Ven) → faults old (Create (ven_object v)) ≡ [] → is_some (ven_by old v.id) ≡ false
ven_new old v g =
    no_fault (is_some (ven_by old v.id)) Exists
    (let first : List Refusal = layout_faults (ven_object v) in
    let second : List Refusal = fault_if (is_some (ven_by old v.id)) Exists in
    let third : List Refusal = reference_faults old (ven_object v) in
    let fourth : List Refusal = fault_if (nat_le MOST_VERSION old.version || is_full_for old (Create (ven_object v))) Full in
    second_of first second third fourth g)

ven_unnamed : (old : Book) (id : List ℕ) → faults old (Remove ven_kind id) ≡ [] → is_named old ven_kind id ≡ false
ven_unnamed old id g =
    no_fault (is_named old ven_kind id) InUse
    (let first : List Refusal = fault_if (not (has_id old ven_kind id)) NotThere in
    let second : List Refusal = fault_if (is_named old ven_kind id) InUse in
    let third : List Refusal = fault_if (nat_le MOST_VERSION old.version) Full in
    no_faults_after first second (no_faults_before (first ++ second) third g))

in_at : {X : Type 0} (xs : List X) (p : ℕ) (x : X) → slice_get xs p ≡ Some x → In x xs
in_at [] p x h = absurd (cc)
in_at (y ∷ ys) zero x h = let e : y ≡ x = cc in inl e
in_at (y ∷ ys) (suc p) x h = inr (in_at ys p x h)

none_of_ven : (old : Book) (id : List ℕ) → ((r : Resource) → In r old.resources → bytes_eq id r.ven_id ≡ false) → AreOfVen old id (length old.resources) []
none_of_ven old id apart = record {
  of_ven = λ p r at l. sym (apart r (in_at old.resources p r at));
  before = λ p h. absurd (cc);
  few = omega arith;
  once = none_stand (length old.resources);
}

pub none_comes : (old : Book) (o : Object) → IsWhole old → kind_of_edit (Create o) ≡ ven_kind → IsOk (step old (Create o)) → AreOfVen old (id_of o) (length old.resources) []
none_comes old (program_object p) whole h k = absurd (cc)
none_comes old (event_object e) whole h k = absurd (cc)
none_comes old (resource_object r) whole h k = absurd (cc)
none_comes old (ven_object v) whole h k = none_of_ven old v.id (λ r m. by (step old (Create (ven_object v))) refl k r m)
  where
    by : (x : Result Book Refusal) → step old (Create (ven_object v)) ≡ x → IsOk x → (r : Resource) → In r old.resources → bytes_eq v.id r.ven_id ≡ false
    by (Err f) e i r m = absurd (cc)
    by (Ok b) e i r m = apart (bytes_eq v.id r.ven_id) refl
      where
        apart : (c : Bool) → bytes_eq v.id r.ven_id ≡ c → bytes_eq v.id r.ven_id ≡ false
        apart false q = q
        apart true q =
            let same : v.id ≡ r.ven_id = same_bytes v.id r.ven_id q in
            absurd (both_ways (is_some (ven_by old v.id)) (ven_new old v (accepted old b (Create (ven_object v)) e).0) (subst (λ i. is_some (ven_by old i) ≡ true) (sym same) (whole.vens r m)))

pub none_goes : (old : Book) (k : Kind) (id : List ℕ) → kind_of_edit (Remove k id) ≡ ven_kind → IsOk (step old (Remove k id)) → AreOfVen old id (length old.resources) []
none_goes old program_kind id h i = absurd (cc)
none_goes old event_kind id h i = absurd (cc)
none_goes old resource_kind id h i = absurd (cc)
none_goes old ven_kind id h i = none_of_ven old id (λ r m. by (step old (Remove ven_kind id)) refl i r m)
  where
    by : (x : Result Book Refusal) → step old (Remove ven_kind id) ≡ x → IsOk x → (r : Resource) → In r old.resources → bytes_eq id r.ven_id ≡ false
    by (Err f) e j r m = absurd (cc)
    by (Ok b) e j r m = none_has (λ (q : Resource). bytes_eq id q.ven_id) old.resources (ven_unnamed old id (accepted old b (Remove ven_kind id) e).0) r m

-- a ven that changes is there
pub ven_changes : (old : Book) (o : Object) → kind_of_edit (Change o) ≡ ven_kind → IsOk (step old (Change o)) → is_some (ven_by old (id_of o)) ≡ true
ven_changes old o h k = subst (λ (x : Kind). has_id old x (id_of o) ≡ true) h (changed_is_there old o k)

-- those of its resources are listed
pub own_places : (book : Book) (id : List ℕ) → AreOfVen book id (length book.resources) (places_of_ven book id)
own_places book id =
    let n = length book.resources in
    let own = is_of_ven book id in
    record {
      of_ven = λ p r at l. passes own 0 n p (omega arith) (omega arith) ∙ ap (λ (o : Option Resource). option_map_or (λ r. bytes_eq id r.ven_id) o false) at;
      before = λ p h. own_within book id p (and_parts (is_among (range_with_len 0 n) p) (own p) (sym (among_filter own (range_with_len 0 n) p) ∙ h)).1;
      few = omega (arith, fewer own (range_with_len 0 n), length-range_with_len 0 n);
      once = range_stands own n;
    }

-- ---- an edit of a ven leaves the places of its resources to be seen to

found_apart : {X : Type 0} (key : X → List ℕ) (new : X) (id : List ℕ) (xs : List X) → bytes_eq id (key new) ≡ false → by_id key id (xs ++ new ∷ []) ≡ by_id key id xs
found_apart key new id [] h = ap (λ b. cond b (Some new) None) h
found_apart key new id (x ∷ xs) h = ap (λ o. cond (bytes_eq id (key x)) (Some x) o) (found_apart key new id xs h)

other_vens : (old : Book) (edit : Edit) (id : List ℕ) → kind_of_edit edit ≡ ven_kind → bytes_eq (id_of_edit edit) id ≡ false → ven_by (made old edit) id ≡ ven_by old id
other_vens old (Create (ven_object v)) id h apart = found_apart (λ (x : Ven). x.id) v id old.vens (bytes_eq-flip id v.id ∙ apart)
other_vens old (Create (program_object p)) id h apart = absurd (cc)
other_vens old (Create (event_object e)) id h apart = absurd (cc)
other_vens old (Create (resource_object r)) id h apart = absurd (cc)
other_vens old (Change (ven_object v)) id h apart = found_other (λ (x : Ven). x.id) v id old.vens apart
other_vens old (Change (program_object p)) id h apart = absurd (cc)
other_vens old (Change (event_object e)) id h apart = absurd (cc)
other_vens old (Change (resource_object r)) id h apart = absurd (cc)
other_vens old (Remove ven_kind gone) id h apart = found_beside (λ (x : Ven). x.id) gone id old.vens apart
other_vens old (Remove program_kind gone) id h apart = absurd (cc)
other_vens old (Remove event_kind gone) id h apart = absurd (cc)
other_vens old (Remove resource_kind gone) id h apart = absurd (cc)

made_same_resources : (old : Book) (edit : Edit) → kind_of_edit edit ≡ ven_kind → (made old edit).resources ≡ old.resources
made_same_resources old (Create (ven_object v)) h = refl
made_same_resources old (Create (program_object p)) h = absurd (cc)
made_same_resources old (Create (event_object e)) h = absurd (cc)
made_same_resources old (Create (resource_object r)) h = absurd (cc)
made_same_resources old (Change (ven_object v)) h = refl
made_same_resources old (Change (program_object p)) h = absurd (cc)
made_same_resources old (Change (event_object e)) h = absurd (cc)
made_same_resources old (Change (resource_object r)) h = absurd (cc)
made_same_resources old (Remove ven_kind id) h = refl
made_same_resources old (Remove program_kind id) h = absurd (cc)
made_same_resources old (Remove event_kind id) h = absurd (cc)
made_same_resources old (Remove resource_kind id) h = absurd (cc)

made_ven_starts : (tie : Tie) (old : Book) (edit : Edit) (places : List ℕ) (s : Seating) → kind_of_edit edit ≡ ven_kind → AreOfVen old (id_of_edit edit) (length old.resources) places
    → AreSeatedFor tie old s → AreSeatedBut tie (made old edit) places s
made_ven_starts tie old edit places s h own seated =
    let keeps = made_keeps_ven old edit h in
    let same = made_same_resources old edit h in
    record {
      count = seated.count ∙ ap (λ (rs : List Resource). length rs) (sym same);
      right = subst (λ es. AreRight tie es s) (sym keeps.events) seated.right;
      writes = λ p r w at m apart.
          let here : slice_get old.resources p ≡ Some r = ap (λ (rs : List Resource). slice_get rs p) (sym same) ∙ at in
          seated.writes p r w here (subst (λ es. In w es) keeps.events m)
          ∙ applies_same old (made old edit) r w keeps.programs
          (other_vens old edit r.ven_id h (sym (own.of_ven p r here (slice_get_within old.resources p r here)) ∙ apart));
      known = λ p n e. let k = seated.known p n e in (k.0, subst (λ es. In k.0 es) (sym keeps.events) k.1, k.2);
    }

pub ven_starts : (tie : Tie) (old new : Book) (edit : Edit) (places : List ℕ) (s : Seating) → kind_of_edit edit ≡ ven_kind → step old edit ≡ Ok new
    → AreOfVen old (id_of_edit edit) (length old.resources) places → AreSeatedFor tie old s → AreSeatedBut tie new places s
ven_starts tie old new edit places s h a own seated = subst (λ b. AreSeatedBut tie b places s) (accepted old new edit a).1 (made_ven_starts tie old edit places s h own seated)

pub ven_resources : (old new : Book) (edit : Edit) → kind_of_edit edit ≡ ven_kind → step old edit ≡ Ok new → new.resources ≡ old.resources
ven_resources old new edit h a = ap (λ (b : Book). b.resources) (sym (accepted old new edit a).1) ∙ made_same_resources old edit h

pub ven_places : (old new : Book) (edit : Edit) (places : List ℕ) → kind_of_edit edit ≡ ven_kind → step old edit ≡ Ok new → AreOfVen old (id_of_edit edit) (length old.resources) places
    → (p : ℕ) → is_among places p ≡ true → p < length new.resources
ven_places old new edit places h a own p m =
    subst (λ (b : Book). p < length b.resources) (accepted old new edit a).1 (subst (λ (rs : List Resource). p < length rs) (sym (made_same_resources old edit h)) (own.before p m))

-- ---- objects with distinct ids

module _ {X : Type 0} (key : X → List ℕ) where
  distinct_first : (x : X) (xs : List X) → IsDistinct bytes_eq (map key (x ∷ xs)) → AllByRecursion (λ i. bytes_eq (key x) i ≡ false) (map key xs)
  unfolding IsDistinct
  distinct_first x xs d = d.0

  distinct_rest : (x : X) (xs : List X) → IsDistinct bytes_eq (map key (x ∷ xs)) → IsDistinct bytes_eq (map key xs)
  unfolding IsDistinct
  distinct_rest x xs d = d.1

  apart_at : (x : X) (xs : List X) (p : ℕ) (r : X) → AllByRecursion (λ i. bytes_eq (key x) i ≡ false) (map key xs) → slice_get xs p ≡ Some r → bytes_eq (key x) (key r) ≡ false
  apart_at x [] p r a e = absurd (cc)
  apart_at x (y ∷ ys) zero r a e = let q : y ≡ r = cc in ap (λ z. bytes_eq (key x) (key z)) (sym q) ∙ a.0
  apart_at x (y ∷ ys) (suc p) r a e = apart_at x ys p r a.1 e

  pub found_has : (id : List ℕ) (xs : List X) (x : X) → by_id key id xs ≡ Some x → bytes_eq id (key x) ≡ true
  found_has id [] x h = absurd (cc)
  found_has id (y ∷ ys) x h = by (bytes_eq id (key y)) refl h (found_has id ys x)
    where
      by : (b : Bool) → bytes_eq id (key y) ≡ b → cond b (Some y) (by_id key id ys) ≡ Some x → (by_id key id ys ≡ Some x → bytes_eq id (key x) ≡ true) → bytes_eq id (key x) ≡ true
      by true e k rest = let same : y ≡ x = cc k in ap (λ z. bytes_eq id (key z)) (sym same) ∙ e
      by false e k rest = rest k

  both_have : (id a b : List ℕ) → bytes_eq id a ≡ true → bytes_eq id b ≡ true → bytes_eq a b ≡ true
  both_have id a b h k = (bytes_eq-Decides a b).1 (sym (same_bytes id a h) ∙ same_bytes id b k)

  -- one id, one place
  one_id : (id : List ℕ) (xs : List X) → IsDistinct bytes_eq (map key xs) → (p q : ℕ) (x y : X) → slice_get xs p ≡ Some x → slice_get xs q ≡ Some y
      → bytes_eq id (key x) ≡ true → bytes_eq id (key y) ≡ true → p ≡ q
  one_id id [] d p q x y a b h k = absurd (cc)
  one_id id (z ∷ zs) d zero zero x y a b h k = refl
  one_id id (z ∷ zs) d zero (suc q) x y a b h k =
      let same : z ≡ x = cc a in
      absurd (both_ways (bytes_eq (key z) (key y)) (apart_at z zs q y (distinct_first z zs d) b) (both_have id (key z) (key y) (ap (λ w. bytes_eq id (key w)) same ∙ h) k))
  one_id id (z ∷ zs) d (suc p) zero x y a b h k =
      let same : z ≡ y = cc b in
      absurd (both_ways (bytes_eq (key z) (key x)) (apart_at z zs p x (distinct_first z zs d) a) (both_have id (key z) (key x) (ap (λ w. bytes_eq id (key w)) same ∙ k) h))
  one_id id (z ∷ zs) d (suc p) (suc q) x y a b h k = ap (λ n. suc n) (one_id id zs (distinct_rest z zs d) p q x y a b h k)

  -- what is put in the place of one leaves the others
  put_beside : (new : X) (xs : List X) → IsDistinct bytes_eq (map key xs) → (place : ℕ) (old : X) → slice_get xs place ≡ Some old → bytes_eq (key new) (key old) ≡ true
      → (p : ℕ) (x : X) → (place ≡ p → ⊥) → slice_get (put_at (λ y. bytes_eq (key new) (key y)) new xs) p ≡ Some x → slice_get xs p ≡ Some x
  put_beside new xs d place old at own p x apart h = by (slice_get xs p) refl
    where
      f : X → X
      f y = if bytes_eq (key new) (key y) then new else y

      mapped : slice_get (put_at (λ y. bytes_eq (key new) (key y)) new xs) p ≡ option_map f (slice_get xs p)
      mapped = slice_get-map f xs p

      by : (o : Option X) → slice_get xs p ≡ o → slice_get xs p ≡ Some x
      by None e = absurd (none (sym (ap (option_map f) e) ∙ sym mapped ∙ h))
        where
          none : None ≡ Some x → ⊥
          none q = absurd (cc)
      by (Some y) e = own_or (bytes_eq (key new) (key y)) refl
        where
          is : Some (f y) ≡ Some x
          is = sym (ap (option_map f) e) ∙ sym mapped ∙ h

          own_or : (b : Bool) → bytes_eq (key new) (key y) ≡ b → slice_get xs p ≡ Some x
          own_or true q = absurd (apart (one_id (key new) xs d place p old y at e own q))
          own_or false q = e ∙ sym (ap (λ b. Some (if b then new else y)) q) ∙ is

  -- what is taken out
  kept_apart : (id : List ℕ) (x : X) (xs : List X) → bytes_eq id (key x) ≡ true → AllByRecursion (λ i. bytes_eq (key x) i ≡ false) (map key xs)
      → filter (λ y. not (bytes_eq id (key y))) xs ≡ xs
  kept_apart id x [] h a = refl
  kept_apart id x (y ∷ ys) h a =
      ap (λ b. cond (not b) (y ∷ filter (λ z. not (bytes_eq id (key z))) ys) (filter (λ z. not (bytes_eq id (key z))) ys)) (ap (λ i. bytes_eq i (key y)) (same_bytes id (key x) h) ∙ a.0)
      ∙ ap (λ zs. y ∷ zs) (kept_apart id x ys h a.1)

  taken_out : (id : List ℕ) (xs : List X) → IsDistinct bytes_eq (map key xs) → (p : ℕ) (x : X) → slice_get xs p ≡ Some x → bytes_eq id (key x) ≡ true
      → filter (λ y. not (bytes_eq id (key y))) xs ≡ remove xs p
  taken_out id [] d p x at h = absurd (cc)
  taken_out id (y ∷ ys) d zero x at h =
      let same : y ≡ x = cc at in
      let own : bytes_eq id (key y) ≡ true = ap (λ z. bytes_eq id (key z)) same ∙ h in
      ap (λ b. cond (not b) (y ∷ filter (λ z. not (bytes_eq id (key z))) ys) (filter (λ z. not (bytes_eq id (key z))) ys)) own
      ∙ kept_apart id y ys own (distinct_first y ys d)
  taken_out id (y ∷ ys) d (suc p) x at h =
      let other : bytes_eq id (key y) ≡ false = ap (λ i. bytes_eq i (key y)) (same_bytes id (key x) h) ∙ flipped in
      ap (λ b. cond (not b) (y ∷ filter (λ z. not (bytes_eq id (key z))) ys) (filter (λ z. not (bytes_eq id (key z))) ys)) other
      ∙ ap (λ zs. y ∷ zs) (taken_out id ys (distinct_rest y ys d) p x at h)
    where
      flipped : bytes_eq (key x) (key y) ≡ false
      flipped = bytes_eq-flip (key x) (key y) ∙ apart_at y ys p x (distinct_first y ys d) at

-- ---- a resource that changes

changed_starts : (tie : Tie) (old : Book) (r : Resource) (place : ℕ) (s : Seating) → IsWhole old → is_some (resource_by old r.id) ≡ true → slice_get old.resources place ≡ resource_by old r.id
    → AreSeatedFor tie old s → AreSeatedBut tie (made old (Change (resource_object r))) (place ∷ []) s
changed_starts tie old r place s whole known at seated = by (resource_by old r.id) refl known
  where
    by : (o : Option Resource) → resource_by old r.id ≡ o → is_some o ≡ true → AreSeatedBut tie (made old (Change (resource_object r))) (place ∷ []) s
    by None e k = absurd (cc)
    by (Some was) e k = record {
      count = seated.count ∙ sym (length-map old.resources (λ q. if bytes_eq r.id q.id then r else q));
      right = seated.right;
      writes = λ p x w here m apart.
          seated.writes p x w
          (put_beside (λ (q : Resource). q.id) r old.resources whole.resource_ids place was (at ∙ e) (found_has (λ (q : Resource). q.id) r.id old.resources was e) p x
          (λ same. both_ways (is_among (place ∷ []) p) apart (ap (λ b. b || false) (eq-eqb place p same))) here) m
          ∙ applies_same old (made old (Change (resource_object r))) x w refl refl;
      known = seated.known;
    }

-- ---- one that comes

created_starts : (tie : Tie) (old : Book) (r : Resource) (s more : Seating) → ((p : ℕ) → p < length s.seats → (g : Lines) × (group_at s p ≡ Some g))
    → HasPlace s more → StaysRight s more → AreSeatedFor tie old s → AreSeatedBut tie (made old (Create (resource_object r))) (length s.seats ∷ []) more
created_starts tie old r s more held has stays seated = record {
  count = count;
  right = stays tie old.events seated.right;
  writes = λ p x w at m apart. writes p x w at m (λ e. both_ways (is_among (length s.seats ∷ []) p) apart (ap (λ b. b || false) (eq-eqb (length s.seats) p e)));
  known = λ p n e. known p n e (length s.seats == p) refl;
}
  where
    more_resources : List Resource
    more_resources = old.resources ++ r ∷ []

    longer : {X : Type 0} (xs : List X) (x : X) → length (xs ++ x ∷ []) ≡ length xs + 1
    longer [] x = refl
    longer (y ∷ ys) x = omega (arith, longer ys x)

    before_it : {X : Type 0} (xs : List X) (x : X) (p : ℕ) (y : X) → p < length xs → slice_get (xs ++ x ∷ []) p ≡ Some y → slice_get xs p ≡ Some y
    before_it [] x p y l h = absurd (omega (arith, l))
    before_it (z ∷ zs) x zero y l h = h
    before_it (z ∷ zs) x (suc p) y l h = before_it zs x p y (omega (arith, l)) h

    count : length more.seats ≡ length more_resources
    count = let a = has.count in let b = seated.count in let c = longer old.resources r in omega (arith, a, b, c)

    same_at : (p n : ℕ) → p < length s.seats → has_at more p n ≡ has_at s p n
    same_at p n l = let g = held p l in sym (number_at more p g.0 n (has.others p g.0 g.1)) ∙ number_at s p g.0 n g.1

    writes : (p : ℕ) (x : Resource) (w : Written) → slice_get more_resources p ≡ Some x → In w old.events → (length s.seats ≡ p → ⊥)
        → has_at more p w.written ≡ applies_to (made old (Create (resource_object r))) x w
    writes p x w at m apart =
        let l = slice_get_within more_resources p x at in
        let b = seated.count in
        let c = longer old.resources r in
        let inside : p < length old.resources = below p (length s.seats) (length old.resources) (length more_resources) b c l apart in
        let seat : p < length s.seats = omega (arith, inside, b) in
        same_at p w.written seat ∙ seated.writes p x w (before_it old.resources r p x inside at) m ∙ applies_same old (made old (Create (resource_object r))) x w refl refl
      where
        below : (q a n k : ℕ) → a ≡ n → k ≡ n + 1 → q < k → (a ≡ q → ⊥) → q < n
        below q a n k e f h g = omega (arith, e, f, h, g)

    known : (p n : ℕ) → has_at more p n ≡ true → (b : Bool) → (length s.seats == p) ≡ b → (w : Written) × In w old.events × (w.written ≡ n)
    known p n e true q = absurd (both_ways (has_at more p n) (subst (λ k. has_at more k n ≡ false) (eqb-true (length s.seats) p q) (has.none n)) e)
    known p n e false q =
        let g = has_group more p n e in
        let l = has_place more p g.0 g.1 in
        let c = has.count in
        let seat : p < length s.seats = below p (length s.seats) (length more.seats) c l (λ k. both_ways (length s.seats == p) q (eq-eqb (length s.seats) p k)) in
        seated.known p n (sym (same_at p n seat) ∙ e)
      where
        below : (x a k : ℕ) → k ≡ a + 1 → x < k → (a ≡ x → ⊥) → x < a
        below x a k f h z = omega (arith, f, h, z)

-- ---- one that goes

removed_seated : (tie : Tie) (old : Book) (id : List ℕ) (place : ℕ) (s after : Seating) → IsWhole old → is_some (resource_by old id) ≡ true → slice_get old.resources place ≡ resource_by old id
    → LacksPlace place s after → StaysRight s after → AreSeatedFor tie old s → AreSeatedFor tie (made old (Remove resource_kind id)) after
removed_seated tie old id place s after whole known at lacks stays seated = by (resource_by old id) refl known
  where
    by : (o : Option Resource) → resource_by old id ≡ o → is_some o ≡ true → AreSeatedFor tie (made old (Remove resource_kind id)) after
    by None e k = absurd (cc)
    by (Some r) e k = record {
      count = count;
      right = stays tie old.events seated.right;
      writes = λ p x w here m.
          same p w.written ∙ seated.writes (was_at place p) x w (sym (after_gone old.resources place p) ∙ sym (ap (λ (rs : List Resource). slice_get rs p) left) ∙ here) m
          ∙ applies_same old (made old (Remove resource_kind id)) x w refl refl;
      known = λ p n t. seated.known (was_at place p) n (sym (same p n) ∙ t);
    }
      where
        left : filter (λ q. not (bytes_eq id q.id)) old.resources ≡ remove old.resources place
        left = taken_out (λ (q : Resource). q.id) id old.resources whole.resource_ids place r (at ∙ e) (found_has (λ (q : Resource). q.id) id old.resources r e)

        same : (p n : ℕ) → has_at after p n ≡ has_at s (was_at place p) n
        same p n = ap (λ (o : Option Lines). option_map_or (λ g. has_number g.writes n) o false) (lacks.others p)

        count : length after.seats ≡ length (filter (λ q. not (bytes_eq id q.id)) old.resources)
        count =
            let a = lacks.count in
            let b = seated.count in
            let c = count_gone old.resources place r (at ∙ e) in
            let d : length (filter (λ q. not (bytes_eq id q.id)) old.resources) ≡ length (remove old.resources place) = ap (λ (rs : List Resource). length rs) left in
            omega (arith, a, b, c, d)

-- ---- of accepted edits

pub resource_comes : (tie : Tie) (old new : Book) (o : Object) (s more : Seating) → kind_of_edit (Create o) ≡ resource_kind → step old (Create o) ≡ Ok new
    → ((p : ℕ) → p < length s.seats → (g : Lines) × (group_at s p ≡ Some g)) → HasPlace s more → StaysRight s more → AreSeatedFor tie old s → AreSeatedBut tie new (length s.seats ∷ []) more
resource_comes tie old new (resource_object r) s more h a held has stays seated =
    subst (λ b. AreSeatedBut tie b (length s.seats ∷ []) more) (accepted old new (Create (resource_object r)) a).1 (created_starts tie old r s more held has stays seated)
resource_comes tie old new (program_object p) s more h a held has stays seated = absurd (cc)
resource_comes tie old new (event_object e) s more h a held has stays seated = absurd (cc)
resource_comes tie old new (ven_object v) s more h a held has stays seated = absurd (cc)

resource_there : (old : Book) (r : Resource) → faults old (Change (resource_object r)) ≡ [] → is_some (resource_by old r.id) ≡ true
resource_there old r g =
    not-false (has_id old resource_kind r.id)
    (no_fault (not (has_id old resource_kind r.id)) NotThere
    (let first : List Refusal = layout_faults (resource_object r) in
    let second : List Refusal = fault_if (not (has_id old resource_kind r.id)) NotThere in
    let third : List Refusal = reference_faults old (resource_object r) in
    let fourth : List Refusal = fault_if (nat_le MOST_VERSION old.version || is_full_for old (Change (resource_object r))) Full in
    second_of first second third fourth g))

pub resource_to_change : (old new : Book) (o : Object) → kind_of_edit (Change o) ≡ resource_kind → step old (Change o) ≡ Ok new → is_some (resource_by old (id_of o)) ≡ true
resource_to_change old new (resource_object r) h a = resource_there old r (accepted old new (Change (resource_object r)) a).0
resource_to_change old new (program_object p) h a = absurd (cc)
resource_to_change old new (event_object e) h a = absurd (cc)
resource_to_change old new (ven_object v) h a = absurd (cc)

pub resource_changes : (tie : Tie) (old new : Book) (o : Object) (place : ℕ) (s : Seating) → IsWhole old → kind_of_edit (Change o) ≡ resource_kind → step old (Change o) ≡ Ok new
    → slice_get old.resources place ≡ resource_by old (id_of o) → AreSeatedFor tie old s → AreSeatedBut tie new (place ∷ []) s
resource_changes tie old new (resource_object r) place s whole h a at seated =
    let x = accepted old new (Change (resource_object r)) a in
    subst (λ b. AreSeatedBut tie b (place ∷ []) s) x.1 (changed_starts tie old r place s whole (resource_there old r x.0) at seated)
resource_changes tie old new (program_object p) place s whole h a at seated = absurd (cc)
resource_changes tie old new (event_object e) place s whole h a at seated = absurd (cc)
resource_changes tie old new (ven_object v) place s whole h a at seated = absurd (cc)

resource_found : (old : Book) (id : List ℕ) → faults old (Remove resource_kind id) ≡ [] → is_some (resource_by old id) ≡ true
resource_found old id g =
    not-false (has_id old resource_kind id)
    (no_fault (not (has_id old resource_kind id)) NotThere
    (let first : List Refusal = fault_if (not (has_id old resource_kind id)) NotThere in
    let second : List Refusal = fault_if (is_named old resource_kind id) InUse in
    let third : List Refusal = fault_if (nat_le MOST_VERSION old.version) Full in
    no_faults_before first second (no_faults_before (first ++ second) third g)))

pub resource_to_go : (old new : Book) (k : Kind) (id : List ℕ) → kind_of_edit (Remove k id) ≡ resource_kind → step old (Remove k id) ≡ Ok new → is_some (resource_by old id) ≡ true
resource_to_go old new resource_kind id h a = resource_found old id (accepted old new (Remove resource_kind id) a).0
resource_to_go old new program_kind id h a = absurd (cc)
resource_to_go old new event_kind id h a = absurd (cc)
resource_to_go old new ven_kind id h a = absurd (cc)

pub resource_goes : (tie : Tie) (old new : Book) (k : Kind) (id : List ℕ) (place : ℕ) (s after : Seating) → IsWhole old → kind_of_edit (Remove k id) ≡ resource_kind → step old (Remove k id) ≡ Ok new
    → slice_get old.resources place ≡ resource_by old id → LacksPlace place s after → StaysRight s after → AreSeatedFor tie old s → AreSeatedFor tie new after
resource_goes tie old new resource_kind id place s after whole h a at lacks stays seated =
    let x = accepted old new (Remove resource_kind id) a in
    subst (λ b. AreSeatedFor tie b after) x.1 (removed_seated tie old id place s after whole (resource_found old id x.0) at lacks stays seated)
resource_goes tie old new program_kind id place s after whole h a at lacks stays seated = absurd (cc)
resource_goes tie old new event_kind id place s after whole h a at lacks stays seated = absurd (cc)
resource_goes tie old new ven_kind id place s after whole h a at lacks stays seated = absurd (cc)
