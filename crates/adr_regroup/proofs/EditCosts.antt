-- What an edit of a resource compares.
use Rattle.std.proofs.Common.{◌≡◌, ℕ, ◌≤◌, ◌||◌, Bool, true, if◌then◌else◌, List, [], ◌∷◌, ◌++◌, length, map, slice_get, Ok, Option, Some, None, is_some, refl, ap, sym, subst, ◌∙◌, nat_le}
use Rattle.std.proofs.lemmas.Option.{slice_get-map}
use Rattle.std.specs.Option.{option_map}
use Rattle.std.specs.Str.{bytes_eq}
use Rattle.adr_value.specs.declared.limits.TheConstants.{MOST_VERSION}
use Rattle.adr_refusal.specs.declared.refusal.Refusal.{Refusal}
use Rattle.adr_refusal.specs.declared.refusal.Refusal.TheVariants.{Exists, Full}
use Rattle.adr_object.specs.declared.object.Object.{Object}
use Rattle.adr_object.specs.declared.object.Object.TheVariants.{Program as program_object, Event as event_object, Ven as ven_object, Resource as resource_object}
use Rattle.adr_object.specs.declared.object.Edit.TheVariants.{Create, Change}
use Rattle.adr_object.specs.Object.{id_of}
use Rattle.adr_object.specs.declared.party.Resource.{Resource}
use Rattle.adr_model.specs.declared.entry.Tie.{Tie}
use Rattle.adr_model.specs.declared.written.Written.{Written}
use Rattle.adr_model.specs.Book.{Book, resource_by}
use Rattle.adr_model.specs.Edits.{faults, step, layout_faults, reference_faults, fault_if, is_full_for}
use Rattle.adr_model.specs.Lists.{In}
use Rattle.adr_model.specs.Touches.{touches}
use Rattle.adr_model.specs.Whole.{IsWhole}
use Rattle.adr_model.proofs.EditLemmas.{accepted}
use Rattle.adr_model.proofs.Keyed.{own_key}
use Rattle.adr_model.proofs.Steps.{no_fault}
use Rattle.adr_repair.proofs.Candidates.{no_resource}
use Rattle.adr_repair.proofs.Lookups.{none_found}
use Rattle.adr_schedule.specs.Place.{HasPlace}
use Rattle.adr_schedule.specs.Seating.{AreSeatedFor, Seating}
use Rattle.adr_regroup.specs.Compared.{most_compared_in, most_reseated_at}
use Rattle.adr_regroup.proofs.PartyEdits.{found_has, resource_keeps, resource_to_change, second_of}
use Rattle.adr_regroup.proofs.TouchCosts.{applying_some, one_cost}
use Rattle.adr_regroup.specs.Kinds.{kind_of_edit}
use Rattle.adr_object.specs.declared.object.Kind.TheVariants.{Resource as resource_kind}

-- ---- one that comes

-- it is new
resource_new : (old : Book) (r : Resource) → faults old (Create (resource_object r)) ≡ [] → resource_by old r.id ≡ None
resource_new old r g =
    none_found (resource_by old r.id)
    (no_fault (is_some (resource_by old r.id)) Exists
    (let first : List Refusal = layout_faults (resource_object r) in
    let second : List Refusal = fault_if (is_some (resource_by old r.id)) Exists in
    let third : List Refusal = reference_faults old (resource_object r) in
    let fourth : List Refusal = fault_if (nat_le MOST_VERSION old.version || is_full_for old (Create (resource_object r))) Full in
    second_of first second third fourth g))

at_last : {X : Type 0} (xs : List X) (x : X) (p : ℕ) → p ≡ length xs → slice_get (xs ++ x ∷ []) p ≡ Some x
at_last {X = X} xs x p e = ap (slice_get (xs ++ x ∷ [])) e ∙ by xs
  where
    by : (ys : List X) → slice_get (ys ++ x ∷ []) (length ys) ≡ Some x
    by [] = refl
    by (y ∷ ys) = by ys

pub created_cost : (old new : Book) (o : Object) (s more : Seating) → IsWhole new → kind_of_edit (Create o) ≡ resource_kind → step old (Create o) ≡ Ok new → length s.seats ≡ length old.resources → HasPlace s more
    → most_reseated_at new more (length s.seats) ≤ most_compared_in new (touches old new)
created_cost old new (resource_object r) s more whole h a count has =
    let x = accepted old new (Create (resource_object r)) a in
    one_cost old new (resource_keeps old new (Create (resource_object r)) h a).events whole more (length s.seats) r
    (subst (λ (b : Book). slice_get b.resources (length s.seats) ≡ Some r) x.1 (at_last old.resources r (length s.seats) count))
    (λ w m. has.none w.written ∙ sym (ap (λ (u : Option Written). is_some u) (no_resource old r.id w.event.id (resource_new old r x.0))))
created_cost old new (program_object p) s more whole h a count has = absurd (cc)
created_cost old new (event_object e) s more whole h a count has = absurd (cc)
created_cost old new (ven_object v) s more whole h a count has = absurd (cc)

-- ---- one that changes

pub changed_cost : (tie : Tie) (old new : Book) (o : Object) (place : ℕ) (s : Seating) → IsWhole old → IsWhole new → kind_of_edit (Change o) ≡ resource_kind → step old (Change o) ≡ Ok new
    → slice_get old.resources place ≡ resource_by old (id_of o) → AreSeatedFor tie old s → most_reseated_at new s place ≤ most_compared_in new (touches old new)
changed_cost tie old new (program_object p) place s was whole h a at seated = absurd (cc)
changed_cost tie old new (event_object e) place s was whole h a at seated = absurd (cc)
changed_cost tie old new (ven_object v) place s was whole h a at seated = absurd (cc)
changed_cost tie old new (resource_object r) place s was whole h a at seated = by (resource_by old r.id) refl (resource_to_change old new (resource_object r) h a)
  where
    kept : new.events ≡ old.events
    kept = (resource_keeps old new (Change (resource_object r)) h a).events

    by : (x : Option Resource) → resource_by old r.id ≡ x → is_some x ≡ true → most_reseated_at new s place ≤ most_compared_in new (touches old new)
    by None e t = absurd (cc)
    by (Some q) e t =
        one_cost old new kept whole s place r
        (subst (λ (b : Book). slice_get b.resources place ≡ Some r) (accepted old new (Change (resource_object r)) a).1 put)
        (λ w m. let there = subst (λ (es : List Written). In w es) kept m in
        seated.writes place q w (at ∙ e) there ∙ sym (applying_some old r.id w.event.id q w e (own_key (λ (v : Written). v.event.id) old.events was.sound.ids w there)))
      where
        f : Resource → Resource
        f y = if bytes_eq r.id y.id then r else y

        put : slice_get (map f old.resources) place ≡ Some r
        put =
            slice_get-map f old.resources place ∙ ap (option_map f) (at ∙ e)
            ∙ ap (λ (b : Bool). Some (if b then r else q)) (found_has (λ (y : Resource). y.id) r.id old.resources q e)
