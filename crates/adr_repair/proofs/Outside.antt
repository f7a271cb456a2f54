-- Outside the windows the candidates are the same.
use Rattle.std.proofs.Common.{◌≡◌, ℕ, ℤ, Bool, true, false, not, ◌&&◌, if◌then◌else◌, List, [], ◌++◌, map, Option, None, Some, refl, ap, ap₂, sym, ◌∙◌, filter, flat_map, append-nil, ◌==◌, ◌⊎◌, inl, inr, eqb-true}
use Rattle.std.specs.List.{list_any, IsDistinct}
use Rattle.std.specs.Str.{bytes_eq}
use Rattle.std.proofs.lemmas.List.Concat.{flat_map-append}
use Rattle.std.proofs.lemmas.List.Folds.{list_any-append}
use Rattle.std.proofs.lemmas.Bool.{or_parts, cases_Bool, both_ways, false_from_ne_true, not-true, not_from_false}
use Rattle.adr_value.specs.declared.payload.PayloadType.{PayloadType}
use Rattle.adr_time.specs.Spans.{covers}
use Rattle.adr_object.specs.declared.party.Resource.{Resource}
use Rattle.adr_model.specs.declared.written.Written.{Written}
use Rattle.adr_model.specs.Book.{Book}
use Rattle.adr_model.specs.Governor.{entries_of, candidates}
use Rattle.adr_model.specs.Touches.{applying, touches, touches_of, touches_between, ids_of_both}
use Rattle.adr_model.specs.Lists.{In}
use Rattle.adr_model.specs.Whole.{event_ids}
use Rattle.adr_repair.specs.Windows.{is_touched, is_window_at}
use Rattle.adr_model.proofs.Lists.{flat_map-same, flat_map-filter, flat_map-filter_none, none_in_part, filter_none, has, has_from_In, In_from_has, In-filter, bytes_eq_self}
use Rattle.adr_model.proofs.Keyed.{absent, event_id, resource_id}
use Rattle.adr_repair.proofs.Windows.{event_touches}
use Rattle.adr_repair.proofs.Candidates.{live, candidates_by_id, no_resource, no_event, applying_there}
use Rattle.adr_model.proofs.Succession.{Succeeds}

-- ---- both books' ids

module _ {Y : Type 0} (f : List ℕ → List Y) (old new : List (List ℕ)) where
  pub old_over_both : ((e : List ℕ) → has old e ≡ false → f e ≡ []) → flat_map f old ≡ flat_map f (ids_of_both old new)
  old_over_both h =
      sym (flat_map-append f old (filter (λ e. not (has old e)) new)
      ∙ ap (λ (l : List Y). flat_map f old ++ l) (flat_map-filter_none f (λ e. not (has old e)) new (λ e n. h e (not-true (has old e) n)))
      ∙ append-nil (flat_map f old))

  pub new_over_both : ((e : List ℕ) → has new e ≡ false → f e ≡ [])
      → new ≡ filter (has new) old ++ filter (λ e. not (has old e)) new
      → flat_map f new ≡ flat_map f (ids_of_both old new)
  new_over_both h order =
      ap (flat_map f) order
      ∙ flat_map-append f (filter (has new) old) (filter (λ e. not (has old e)) new)
      ∙ ap (λ (l : List Y). l ++ flat_map f (filter (λ e. not (has old e)) new)) (flat_map-filter f (has new) old h)
      ∙ sym (flat_map-append f old (filter (λ e. not (has old e)) new))

-- an id that neither list has
pub in_neither : (old new : List (List ℕ)) (id : List ℕ) → has (ids_of_both old new) id ≡ false → (has old id ≡ false) × (has new id ≡ false)
in_neither old new id h =
    let parts = or_parts (has old id) (has (filter (λ e. not (has old e)) new) id) (sym (list_any-append (bytes_eq id) old (filter (λ e. not (has old e)) new)) ∙ h) in (
      parts.0,
      false_from_ne_true (has new id)
          (λ t. both_ways (has (filter (λ e. not (has old e)) new) id) parts.1
          (has_from_In (filter (λ e. not (has old e)) new) id
          (In-filter (λ e. not (has old e)) new id (In_from_has new id t) (not_from_false (has old id) parts.0)))),
    )

-- ---- one event

-- no touch of the event, no candidate of it
quiet : (id : List ℕ) (kind : PayloadType) (t : ℤ) (w : Written) → list_any (is_window_at id kind t) (touches_of id w) ≡ false → live kind t (Some w) ≡ []
quiet id kind t w h =
    filter_none (λ e. covers e.span t) (entries_of kind w)
    (sym (event_touches id id kind t w ∙ ap (λ (b : Bool). b && list_any (λ e. covers e.span t) (entries_of kind w)) (bytes_eq_self id)) ∙ h)

-- no touch between two writes that may apply, the same candidates
pub quiet_between : (id : List ℕ) (kind : PayloadType) (t : ℤ) (a b : Option Written)
    → ((w v : Written) → a ≡ Some w → b ≡ Some v → w.written ≡ v.written → w ≡ v)
    → list_any (is_window_at id kind t) (touches_between id a b) ≡ false
    → live kind t a ≡ live kind t b
quiet_between id kind t None None same h = refl
quiet_between id kind t None (Some v) same h = sym (quiet id kind t v h)
quiet_between id kind t (Some w) None same h = quiet id kind t w h
quiet_between id kind t (Some w) (Some v) same h = by (w.written == v.written) refl h
  where
    by : (b : Bool) → (w.written == v.written) ≡ b
        → list_any (is_window_at id kind t) (if b then [] else (touches_of id w ++ touches_of id v)) ≡ false
        → live kind t (Some w) ≡ live kind t (Some v)
    by true e n = ap (λ (x : Written). live kind t (Some x)) (same w v refl refl (eqb-true w.written v.written e))
    by false e n =
        let p = or_parts (list_any (is_window_at id kind t) (touches_of id w)) (list_any (is_window_at id kind t) (touches_of id v))
        (sym (list_any-append (is_window_at id kind t) (touches_of id w) (touches_of id v)) ∙ n) in
        quiet id kind t w p.0 ∙ sym (quiet id kind t v p.1)

-- ---- one resource

module _ (old new : Book) (id : List ℕ) (kind : PayloadType) (t : ℤ) where
  old_ids : List (List ℕ)
  old_ids = map (λ (r : Resource). r.id) old.resources

  new_ids : List (List ℕ)
  new_ids = map (λ (r : Resource). r.id) new.resources

  -- no window at all, none of an event
  quiet_event : is_touched old new id kind t ≡ false → (e : List ℕ) → In e (ids_of_both (event_ids old) (event_ids new))
      → list_any (is_window_at id kind t) (touches_between id (applying old id e) (applying new id e)) ≡ false
  unfolding touches old_ids new_ids
  quiet_event h e m = by (cases_Bool (has (ids_of_both old_ids new_ids) id))
    where
      by : (has (ids_of_both old_ids new_ids) id ≡ true) ⊎ (has (ids_of_both old_ids new_ids) id ≡ false)
          → list_any (is_window_at id kind t) (touches_between id (applying old id e) (applying new id e)) ≡ false
      by (inl there) =
          none_in_part (is_window_at id kind t) (λ v. touches_between id (applying old id v) (applying new id v)) (ids_of_both (event_ids old) (event_ids new)) e m
          (none_in_part (is_window_at id kind t)
          (λ r. flat_map (λ v. touches_between r (applying old r v) (applying new r v)) (ids_of_both (event_ids old) (event_ids new)))
          (ids_of_both old_ids new_ids) id (In_from_has (ids_of_both old_ids new_ids) id there) h)
      by (inr not_there) =
          let p = in_neither old_ids new_ids id not_there in
          let a : applying old id e ≡ None = no_resource old id e (absent resource_id id old.resources p.0) in
          let b : applying new id e ≡ None = no_resource new id e (absent resource_id id new.resources p.1) in
          ap₂ (λ (x y : Option Written). list_any (is_window_at id kind t) (touches_between id x y)) a b

  pub same_candidates : IsDistinct bytes_eq (event_ids old) → IsDistinct bytes_eq (event_ids new) → Succeeds old new
      → is_touched old new id kind t ≡ false → candidates old id kind t ≡ candidates new id kind t
  same_candidates d e s h =
      candidates_by_id old id kind t d
      ∙ old_over_both (λ v. live kind t (applying old id v)) (event_ids old) (event_ids new) (λ v a. ap (live kind t) (no_event old id v (absent event_id v old.events a)))
      ∙ flat_map-same _ _ (ids_of_both (event_ids old) (event_ids new))
      (λ v m. quiet_between id kind t (applying old id v) (applying new id v)
      (λ w x a b. s.same_write w x (applying_there old id v w a).0 (applying_there new id v x b).0)
      (quiet_event h v m))
      ∙ sym (new_over_both (λ v. live kind t (applying new id v)) (event_ids old) (event_ids new) (λ v a. ap (live kind t) (no_event new id v (absent event_id v new.events a))) s.order)
      ∙ sym (candidates_by_id new id kind t e)
