-- What places compare is no more than the touches between the books ask.
use Rattle.std.proofs.Common.{◌≡◌, ℕ, ◌≤◌, Bool, true, false, not, if◌then◌else◌, List, length, map, filter, flat_map, find, slice_get, sum_by, is_some, Option, Some, None, refl, ap, ap₂, sym, subst, ◌∙◌, arith}
use Rattle.std.proofs.lemmas.Bool.{not_from_false}
use Rattle.std.proofs.lemmas.List.Sums.{sum_by-append}
use Rattle.std.specs.Bool.{then_some}
use Rattle.std.specs.List.{list_any}
use Rattle.std.specs.Option.{option_and_then, option_map_or}
use Rattle.std.specs.Str.{bytes_eq}
use Rattle.adr_object.specs.declared.party.Resource.{Resource}
use Rattle.adr_model.specs.declared.entry.Tie.{Tie}
use Rattle.adr_model.specs.declared.touch.Touch.{Touch}
use Rattle.adr_model.specs.declared.written.Written.{Written}
use Rattle.adr_model.specs.Book.{Book, event_by, resource_by}
use Rattle.adr_model.specs.Governor.{applies_to}
use Rattle.adr_model.specs.Lists.{In}
use Rattle.adr_model.specs.Touches.{applying, ids_of_both, touches, touches_between, touches_of}
use Rattle.adr_model.specs.Whole.{event_ids, IsWhole}
use Rattle.adr_model.proofs.Keyed.{absent, own_key}
use Rattle.adr_model.proofs.Lists.{has, In_from_has, In-append_left, In-append_right, In-filter, In-map}
use Rattle.adr_repair.proofs.Candidates.{applying_event, no_event}
use Rattle.adr_repair.proofs.Outside.{in_neither}
use Rattle.adr_schedule.specs.Seating.{has_at, AreSeatedFor, Seating}
use Rattle.adr_regroup.specs.Compared.{differ, most_compared_at, most_compared_in, most_differing, most_reseated_at, StandOnce}
use Rattle.adr_regroup.proofs.Reseated.{same_one}
use Rattle.adr_regroup.proofs.Sums.{sum_flat, sum_has, sum_map, sum_places, sum_rises}
use Rattle.adr_regroup.proofs.Turned.{In_at}

abbrev pub resource_ids : Book → List (List ℕ)
resource_ids book = map (λ r. r.id) book.resources

-- ---- resource by resource, and event by event

module _ (old new : Book) where
  abbrev pub between : List ℕ → List ℕ → ℕ
  between r e = most_compared_in new (touches_between r (applying old r e) (applying new r e))

  abbrev pub row : List ℕ → ℕ
  row r = sum_by (between r) (ids_of_both (event_ids old) (event_ids new))

  abbrev touched : List ℕ → List Touch
  touched r = flat_map (λ e. touches_between r (applying old r e) (applying new r e)) (ids_of_both (event_ids old) (event_ids new))

  pub rows_cost : sum_by row (ids_of_both (resource_ids old) (resource_ids new)) ≤ most_compared_in new (touches old new)
  unfolding touches most_compared_in
  rows_cost =
      let each = sum_rises row (λ r. sum_by (most_compared_at new) (touched r)) (ids_of_both (resource_ids old) (resource_ids new)) (λ r m. one r) in
      let all = sum_flat (most_compared_at new) touched (ids_of_both (resource_ids old) (resource_ids new)) in
      omega (arith, each, all)
    where
      one : (r : List ℕ) → row r ≤ sum_by (most_compared_at new) (touched r)
      one r =
          let same : sum_by (most_compared_at new) (touched r) ≡ row r =
          sum_flat (most_compared_at new) (λ e. touches_between r (applying old r e) (applying new r e)) (ids_of_both (event_ids old) (event_ids new)) in
          omega (arith, same)

  -- those of the old resources
  pub old_rows_cost : sum_by (λ (r : Resource). row r.id) old.resources ≤ most_compared_in new (touches old new)
  old_rows_cost =
      let ids : sum_by row (resource_ids old) ≡ sum_by (λ (r : Resource). row r.id) old.resources = sum_map row (λ (r : Resource). r.id) old.resources in
      let both = sum_by-append row (resource_ids old) (filter (λ id. not (list_any (bytes_eq id) (resource_ids old))) (resource_ids new)) in
      omega (arith, ids, both, rows_cost)

  -- one event's part of a resource's
  pub between_row : (r id : List ℕ) → between r id ≤ row r
  unfolding most_compared_in
  between_row r id = by (has (ids_of_both (event_ids old) (event_ids new)) id) refl
    where
      by : (b : Bool) → has (ids_of_both (event_ids old) (event_ids new)) id ≡ b → between r id ≤ row r
      by true e = sum_has (between r) (ids_of_both (event_ids old) (event_ids new)) id (In_from_has (ids_of_both (event_ids old) (event_ids new)) id e)
      by false e =
          let none = in_neither (event_ids old) (event_ids new) id e in
          let was = no_event old r id (absent (λ (w : Written). w.event.id) id old.events none.0) in
          let now = no_event new r id (absent (λ (w : Written). w.event.id) id new.events none.1) in
          let nothing : between r id ≡ 0 = ap₂ (λ (a b : Option Written). most_compared_in new (touches_between r a b)) was now in
          omega (arith, nothing)

-- ---- one place

-- an event applies just where it is there to apply
pub applying_some : (book : Book) (id e : List ℕ) (r : Resource) (w : Written) → resource_by book id ≡ Some r → event_by book e ≡ Some w → is_some (applying book id e) ≡ applies_to book r w
applying_some book id e r w found here =
    ap (λ (o : Option Resource). is_some (option_and_then (λ q. option_and_then (λ v. then_some (applies_to book q v) v) (event_by book e)) o)) found
    ∙ ap (λ (o : Option Written). is_some (option_and_then (λ v. then_some (applies_to book r v) v) o)) here
    ∙ by (applies_to book r w)
  where
    by : (b : Bool) → is_some (then_some b w) ≡ b
    by true = refl
    by false = refl

module _ (old new : Book) (kept : new.events ≡ old.events) (whole : IsWhole new) (s : Seating) (place : ℕ) (r : Resource) (at : slice_get new.resources place ≡ Some r)
    (had : (w : Written) → In w new.events → has_at s place w.written ≡ is_some (applying old r.id w.event.id)) where
  one_event : (w : Written) (o : Option Written) (b : Bool) → ((v : Written) → o ≡ Some v → v ≡ w)
      → (if differ (is_some o) b then most_compared_in new (touches_of r.id w) else 0) ≤ most_compared_in new (touches_between r.id o (then_some b w))
  one_event w None true one = omega arith
  one_event w None false one = omega arith
  one_event w (Some v) true one = omega arith
  one_event w (Some v) false one =
      let same : most_compared_in new (touches_of r.id v) ≡ most_compared_in new (touches_of r.id w) = ap (λ x. most_compared_in new (touches_of r.id x)) (one v refl) in
      omega (arith, same)

  each_event : (w : Written) → In w new.events
      → (if differ (has_at s place w.written) (applies_to new r w) then most_compared_in new (touches_of r.id w) else 0) ≤ between old new r.id w.event.id
  each_event w m =
      let e = w.event.id in
      let found : resource_by new r.id ≡ Some r = own_key (λ (q : Resource). q.id) new.resources whole.resource_ids r (In_at new.resources place r at) in
      let here : event_by new e ≡ Some w = own_key (λ (v : Written). v.event.id) new.events whole.sound.ids w m in
      let now : applying new r.id e ≡ then_some (applies_to new r w) w =
      ap (λ (o : Option Resource). option_and_then (λ q. option_and_then (λ v. then_some (applies_to new q v) v) (event_by new e)) o) found
      ∙ ap (λ (o : Option Written). option_and_then (λ v. then_some (applies_to new r v) v) o) here in
      let first : (if differ (has_at s place w.written) (applies_to new r w) then most_compared_in new (touches_of r.id w) else 0)
      ≡ (if differ (is_some (applying old r.id e)) (applies_to new r w) then most_compared_in new (touches_of r.id w) else 0) =
      ap (λ (b : Bool). if differ b (applies_to new r w) then most_compared_in new (touches_of r.id w) else 0) (had w m) in
      let last : between old new r.id e ≡ most_compared_in new (touches_between r.id (applying old r.id e) (then_some (applies_to new r w) w)) =
      ap (λ (o : Option Written). most_compared_in new (touches_between r.id (applying old r.id e) o)) now in
      let main = one_event w (applying old r.id e) (applies_to new r w)
      (λ v h. same_one (event_by new e) v w (ap (λ (es : List Written). find (λ x. bytes_eq e x.event.id) es) kept ∙ applying_event old r.id e v h) here) in
      omega (arith, first, last, main)

  pub place_row : most_reseated_at new s place ≤ row old new r.id
  unfolding most_reseated_at
  place_row =
      let here : option_map_or (most_differing new s place) (slice_get new.resources place) 0 ≡ most_differing new s place r = ap (λ (o : Option Resource). option_map_or (most_differing new s place) o 0) at in
      let less = sum_rises (λ w. if differ (has_at s place w.written) (applies_to new r w) then most_compared_in new (touches_of r.id w) else 0) (λ w. between old new r.id w.event.id) new.events each_event in
      let ids : sum_by (between old new r.id) (event_ids new) ≡ sum_by (λ w. between old new r.id w.event.id) new.events = sum_map (between old new r.id) (λ w. w.event.id) new.events in
      let same : sum_by (between old new r.id) (event_ids new) ≡ sum_by (between old new r.id) (event_ids old) = ap (λ (es : List Written). sum_by (between old new r.id) (map (λ w. w.event.id) es)) kept in
      let both = sum_by-append (between old new r.id) (event_ids old) (filter (λ id. not (list_any (bytes_eq id) (event_ids old))) (event_ids new)) in
      omega (arith, here, less, ids, same, both)

  pub one_cost : most_reseated_at new s place ≤ most_compared_in new (touches old new)
  one_cost =
      let own = sum_has (row old new) (ids_of_both (resource_ids old) (resource_ids new)) r.id (by (has (resource_ids old) r.id) refl) in
      let all = rows_cost old new in
      omega (arith, place_row, own, all)
    where
      there : In r.id (resource_ids new)
      there = In-map (λ (q : Resource). q.id) new.resources r (In_at new.resources place r at)

      by : (b : Bool) → has (resource_ids old) r.id ≡ b → In r.id (ids_of_both (resource_ids old) (resource_ids new))
      by true e = In-append_left r.id (resource_ids old) (filter (λ id. not (has (resource_ids old) id)) (resource_ids new)) (In_from_has (resource_ids old) r.id e)
      by false e =
          In-append_right r.id (resource_ids old) (filter (λ id. not (has (resource_ids old) id)) (resource_ids new))
          (In-filter (λ id. not (has (resource_ids old) id)) (resource_ids new) r.id there (not_from_false (has (resource_ids old) r.id) e))

-- ---- places of the same resources

-- who has a write in the old seating has its event
pub had_there : (tie : Tie) (old : Book) (s : Seating) → IsWhole old → AreSeatedFor tie old s → (p : ℕ) (r : Resource) (w : Written) → slice_get old.resources p ≡ Some r → In w old.events
    → has_at s p w.written ≡ is_some (applying old r.id w.event.id)
had_there tie old s whole seated p r w at m =
    seated.writes p r w at m
    ∙ sym (applying_some old r.id w.event.id r w (own_key (λ (q : Resource). q.id) old.resources whole.resource_ids r (In_at old.resources p r at)) (own_key (λ (v : Written). v.event.id) old.events whole.sound.ids w m))

pub places_cost : (tie : Tie) (old new : Book) (s : Seating) (places : List ℕ) → IsWhole old → IsWhole new → new.events ≡ old.events → new.resources ≡ old.resources → AreSeatedFor tie old s
    → StandOnce places (length new.resources) → sum_by (most_reseated_at new s) places ≤ most_compared_in new (touches old new)
places_cost tie old new s places was whole kept same seated once =
    let few = once (most_reseated_at new s) in
    let each = sum_places (most_reseated_at new s) (λ (r : Resource). row old new r.id) new.resources (λ p r at. place_row old new kept whole s p r at
    (λ w m. had_there tie old s was seated p r w (ap (λ (rs : List Resource). slice_get rs p) (sym same) ∙ at) (subst (λ (es : List Written). In w es) kept m))) in
    let olds : sum_by (λ (r : Resource). row old new r.id) new.resources ≡ sum_by (λ (r : Resource). row old new r.id) old.resources = ap (λ (rs : List Resource). sum_by (λ r. row old new r.id) rs) same in
    let all = old_rows_cost old new in
    omega (arith, few, each, olds, all)
