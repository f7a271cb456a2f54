-- An edit that brings private types under names of their own alone leaves books that have no others.
use Rattle.std.proofs.Common.{◌≡◌, ℕ, ◌+◌, Bool, true, false, not, cond, List, [], ◌∷◌, ◌++◌, ◌⊎◌, inl, inr, Ok, filter, sym, ap, subst, ◌∙◌}
use Rattle.std.proofs.Common.{get_or, length, take, take_all, append-nil, ◌<◌, ◌≤◌}
use Rattle.std.proofs.lemmas.Grind.{flat_map-append, take_at_read}
use Rattle.std.specs.List.{flat_map}
use Rattle.std.specs.Str.{bytes_eq}
use Rattle.adr_value.specs.Names.{is_table_name}
use Rattle.adr_object.specs.declared.event.Event.{Event}
use Rattle.adr_object.specs.declared.object.Kind.{Kind}
use Rattle.adr_object.specs.declared.object.Kind.TheVariants.{Event as event_kind}
use Rattle.adr_object.specs.declared.object.Object.{Object}
use Rattle.adr_object.specs.declared.object.Object.TheVariants.{Event as event}
use Rattle.adr_object.specs.declared.object.Edit.{Edit}
use Rattle.adr_object.specs.declared.object.Edit.TheVariants.{Create, Change, Remove}
use Rattle.adr_model.specs.declared.written.Written.{Written}
use Rattle.adr_model.specs.Book.{Book}
use Rattle.adr_model.specs.Edits.{changed, created, edited, put_at, removed, step_to}
use Rattle.adr_model.specs.Lists.{In}
use Rattle.adr_model.proofs.EditLemmas.{accepted_to}
use Rattle.adr_model.proofs.Lists.{In-append_cases, In-flat_map, In-from_filter, In-from_flat_map, In-from_map}
use Rattle.adr_board.specs.Types.{edit_names, event_names, object_names, ArePrivate, HasPrivateNames}

abbrev names_in : List Written → List (List ℕ)
names_in ws = flat_map (λ (w : Written). event_names w.event) ws

-- each event is an old one, or the new event
from_each : (old new : List Written) (e : Event) → ((w : Written) → In w new → In w old ⊎ (w.event ≡ e))
    → ArePrivate (names_in old) → ArePrivate (event_names e) → ArePrivate (names_in new)
from_each old new e each own come name m = by (In-from_flat_map (λ (w : Written). event_names w.event) new name m)
  where
    by_each : (w : Written) → In name (event_names w.event) → In w old ⊎ (w.event ≡ e) → is_table_name name ≡ false
    by_each w here (inl there) = own name (In-flat_map (λ (v : Written). event_names v.event) old w name there here)
    by_each w here (inr is) = come name (subst (λ f. In name (event_names f)) is here)

    by : (w : Written) × In w new × In name (event_names w.event) → is_table_name name ≡ false
    by (w, there, here) = by_each w here (each w there)

module _ (book : Book) (own : HasPrivateNames book) where
  put_event : (e : Event) (w : Written) → In w (put_at (λ (v : Written). bytes_eq e.id v.event.id) (record { event = e; written = book.version + 1 }) book.events)
      → In w book.events ⊎ (w.event ≡ e)
  put_event e w m = by (In-from_map (λ (v : Written). cond (bytes_eq e.id v.event.id) (record { event = e; written = book.version + 1 }) v) book.events w m)
    where
      by_test : (v : Written) (b : Bool) → In v book.events → cond b (record { event = e; written = book.version + 1 }) v ≡ w → In w book.events ⊎ (w.event ≡ e)
      by_test v true there is = inr (ap (λ (x : Written). x.event) (sym is))
      by_test v false there is = inl (subst (λ x. In x book.events) is there)

      by : (v : Written) × In v book.events × (cond (bytes_eq e.id v.event.id) (record { event = e; written = book.version + 1 }) v ≡ w) → In w book.events ⊎ (w.event ≡ e)
      by (v, there, is) = by_test v (bytes_eq e.id v.event.id) there is

  added_event : (e : Event) (w : Written) → In w (book.events ++ record { event = e; written = book.version + 1 } ∷ []) → In w book.events ⊎ (w.event ≡ e)
  added_event e w m = by (In-append_cases w book.events (record { event = e; written = book.version + 1 } ∷ []) m)
    where
      by : In w book.events ⊎ ((record { event = e; written = book.version + 1 } ≡ w) ⊎ ⊥) → In w book.events ⊎ (w.event ≡ e)
      by (inl there) = inl there
      by (inr (inl is)) = inr (ap (λ (x : Written). x.event) (sym is))
      by (inr (inr none)) = absurd none

  created_private : (o : Object) → ArePrivate (object_names o) → HasPrivateNames (created book o)
  created_private (event e) come = from_each book.events (created book (event e)).events e (added_event e) own come
  created_private _ come = own

  changed_private : (o : Object) → ArePrivate (object_names o) → HasPrivateNames (changed book o)
  changed_private (event e) come = from_each book.events (changed book (event e)).events e (put_event e) own come
  changed_private _ come = own

  less : (test : Written → Bool) → ArePrivate (names_in (filter test book.events))
  less test name m =
      let (w, there, here) = In-from_flat_map (λ (v : Written). event_names v.event) (filter test book.events) name m in
      own name (In-flat_map (λ (v : Written). event_names v.event) book.events w name (In-from_filter test book.events w there).0 here)

  removed_private : (kind : Kind) (id : List ℕ) → HasPrivateNames (removed book kind id)
  removed_private event_kind id = less (λ (w : Written). not (bytes_eq id w.event.id))
  removed_private _ id = own

  edited_private : (x : Edit) → ArePrivate (edit_names x) → HasPrivateNames (edited book x)
  edited_private (Create o) come = created_private o come
  edited_private (Change o) come = changed_private o come
  edited_private (Remove kind id) come = removed_private kind id

  pub step_private : (full : ℕ) (x : Edit) (new : Book) → ArePrivate (edit_names x) → step_to full book x ≡ Ok new → HasPrivateNames new
  step_private full x new come h = subst HasPrivateNames (accepted_to full book new x h).1 (edited_private x come)

-- ---- a walk through a list

module _ {X : Type 0} (f : X → List (List ℕ)) where
  both_private : (xs ys : List (List ℕ)) → ArePrivate xs → ArePrivate ys → ArePrivate (xs ++ ys)
  both_private xs ys p q name m = by (In-append_cases name xs ys m)
    where
      by : In name xs ⊎ In name ys → is_table_name name ≡ false
      by (inl n) = p name n
      by (inr n) = q name n

  -- one more
  pub more_private : (xs : List X) (i : ℕ) (x : X) → i < length xs → x ≡ get_or xs i x
      → ArePrivate (flat_map f (take i xs)) → ArePrivate (f x) → ArePrivate (flat_map f (take (i + 1) xs))
  more_private xs i x within is so_far here =
      let step = ap (flat_map f) ((take_at_read xs i x within).1 ∙ ap (λ y. take i xs ++ y ∷ []) (sym is)) ∙ flat_map-append f (take i xs) (x ∷ []) in
      subst ArePrivate (sym step) (both_private (flat_map f (take i xs)) (flat_map f (x ∷ [])) so_far (subst ArePrivate (sym (append-nil (f x))) here))

  -- and all
  pub all_private : (xs : List X) (i : ℕ) → length xs ≤ i → ArePrivate (flat_map f (take i xs)) → ArePrivate (flat_map f xs)
  all_private xs i long h = subst ArePrivate (ap (flat_map f) (take_all i xs long)) h
