-- A table stays one as a row is added, changed or taken out.
use Rattle.std.proofs.Common.{◌≡◌, ℕ, ◌+◌, Bool, true, false, not, cond, List, [], ◌∷◌, ◌++◌, map, filter, length, slice_get, Option, Some, None, is_some, refl, sym, ap, subst, ◌∙◌, if◌then◌else◌}
use Rattle.std.specs.declared.cmp.Ordering.TheVariants.{Greater}
use Rattle.std.specs.List.{AllByRecursion, IsDistinct}
use Rattle.std.specs.Map.{values_of}
use Rattle.std.specs.Option.{option_map}
use Rattle.std.specs.Str.{bytes_eq}
use Rattle.std.proofs.lemmas.Slice.Eq.{bytes_eq-Decides}
use Rattle.adr_model.proofs.Keyed.{distinct_filter, distinct_more}
use Rattle.adr_model.proofs.Lists.{same_bytes}
use Rattle.adr_shared.specs.Map.{code_cmp, lookup, put, place_of, without as code_without}
use Rattle.adr_shared.proofs.Parts.{ascends_put, ascends_without}
use Rattle.adr_shared.proofs.LookUps.{put_is_found, taken_is_gone}
use Rattle.adr_shared.proofs.Last.{all_above, last_above, one_more, put_last, values_pushed}
use Rattle.adr_store.proofs.Rows.{swapped, value_of_row, found_value, parts, row_place, put_row, without_row, values_swapped, values_kept}
use Rattle.adr_store.proofs.Dense.{dense_changed}
use Rattle.adr_store.specs.Table.{AreAtNumbers, IsTable, find_by, put_by, row_by, without}

module _ {T : Type 0} where
  kept_all : (P : List ℕ × T → Type 0) (t : List ℕ × T → Bool) (rows : List (List ℕ × T)) → AllByRecursion P rows → AllByRecursion P (filter t rows)
  kept_all P t [] a = tt
  kept_all P t (x ∷ rows) a = by (t x) (kept_all P t rows a.1)
    where
      by : (b : Bool) → AllByRecursion P (filter t rows) → AllByRecursion P (cond b (x ∷ filter t rows) (filter t rows))
      by true rest = (a.0, rest)
      by false rest = rest

module _ {T : Type 0} (key : T → List ℕ) where
  -- ---- which row an id has after an edit

  last_row : (id : List ℕ) (rows : List (List ℕ × T)) (r : List ℕ × T) → row_by key rows id ≡ None → row_by key (rows ++ r ∷ []) id ≡ cond (bytes_eq id (key r.1)) (Some r) None
  last_row id [] r h = refl
  last_row id (x ∷ rows) r h = by (bytes_eq id (key x.1)) h (last_row id rows r)
    where
      by : (b : Bool) → cond b (Some x) (row_by key rows id) ≡ None → (row_by key rows id ≡ None → row_by key (rows ++ r ∷ []) id ≡ cond (bytes_eq id (key r.1)) (Some r) None)
          → cond b (Some x) (row_by key (rows ++ r ∷ []) id) ≡ cond (bytes_eq id (key r.1)) (Some r) None
      by true k rest = absurd (cc)
      by false k rest = rest k

  other_row : (id : List ℕ) (rows : List (List ℕ × T)) (r : List ℕ × T) → bytes_eq id (key r.1) ≡ false → row_by key (rows ++ r ∷ []) id ≡ row_by key rows id
  other_row id [] r h = rw h refl
  other_row id (x ∷ rows) r h = ap (cond (bytes_eq id (key x.1)) (Some x)) (other_row id rows r h)

  own_key : (v x : T) → key (if bytes_eq (key v) (key x) then v else x) ≡ key x
  own_key v x = by (bytes_eq (key v) (key x)) refl
    where
      by : (b : Bool) → bytes_eq (key v) (key x) ≡ b → key (if b then v else x) ≡ key x
      by true e = same_bytes (key v) (key x) e
      by false e = refl

  swapped_row : (v : T) (rows : List (List ℕ × T)) (id : List ℕ) → option_map (λ e. e.0) (row_by key (map (swapped key (key v) v) rows) id) ≡ option_map (λ e. e.0) (row_by key rows id)
  swapped_row v [] id = refl
  swapped_row v (x ∷ rows) id = rw (own_key v x.1) (by (bytes_eq id (key x.1)) (swapped_row v rows id))
    where
      by : (b : Bool) → option_map (λ e. e.0) (row_by key (map (swapped key (key v) v) rows) id) ≡ option_map (λ e. e.0) (row_by key rows id)
          → option_map (λ e. e.0) (cond b (Some (swapped key (key v) v x)) (row_by key (map (swapped key (key v) v) rows) id)) ≡ option_map (λ e. e.0) (cond b (Some x) (row_by key rows id))
      by true rest = refl
      by false rest = rest

  swapped_keys : (v : T) (rows : List (List ℕ × T)) → map key (values_of (map (swapped key (key v) v) rows)) ≡ map key (values_of rows)
  swapped_keys v [] = refl
  swapped_keys v (x ∷ rows) = rw (own_key v x.1) (ap (λ ks. key x.1 ∷ ks) (swapped_keys v rows))

  swapped_codes : (P : List ℕ → Type 0) (v : T) (rows : List (List ℕ × T)) → AllByRecursion (λ e. P e.0) rows → AllByRecursion (λ e. P e.0) (map (swapped key (key v) v) rows)
  swapped_codes P v [] a = tt
  swapped_codes P v (x ∷ rows) a = (a.0, swapped_codes P v rows a.1)

  left_row : (gone id : List ℕ) (rows : List (List ℕ × T)) → row_by key (filter (λ x. not (bytes_eq gone (key x.1))) rows) id ≡ cond (bytes_eq id gone) None (row_by key rows id)
  left_row gone id [] = by (bytes_eq id gone)
    where
      by : (b : Bool) → row_by key [] id ≡ cond b None (row_by key [] id)
      by true = refl
      by false = refl
  left_row gone id (x ∷ rows) = by (bytes_eq gone (key x.1)) refl (bytes_eq id (key x.1)) refl (bytes_eq id gone) refl (left_row gone id rows)
    where
      by : (a : Bool) → bytes_eq gone (key x.1) ≡ a → (b : Bool) → bytes_eq id (key x.1) ≡ b → (c : Bool) → bytes_eq id gone ≡ c
          → row_by key (filter (λ y. not (bytes_eq gone (key y.1))) rows) id ≡ cond (bytes_eq id gone) None (row_by key rows id)
          → row_by key (cond (not a) (x ∷ filter (λ y. not (bytes_eq gone (key y.1))) rows) (filter (λ y. not (bytes_eq gone (key y.1))) rows)) id ≡ cond c None (cond b (Some x) (row_by key rows id))
      by true e true f true g rest = rest ∙ rw g refl
      by true e false f true g rest = rest ∙ rw g refl
      by true e false f false g rest = rest ∙ rw g refl
      by true e true f false g rest =
          let same : bytes_eq id gone ≡ true = (bytes_eq-Decides id gone).1 (same_bytes id (key x.1) f ∙ sym (same_bytes gone (key x.1) e)) in absurd (cc)
      by false e true f true g rest =
          let same : bytes_eq gone (key x.1) ≡ true = (bytes_eq-Decides gone (key x.1)).1 (sym (same_bytes id gone g) ∙ same_bytes id (key x.1) f) in absurd (cc)
      by false e true f false g rest = rw f refl
      by false e false f true g rest = rw f (rest ∙ rw g refl)
      by false e false f false g rest = rw f (rest ∙ rw g refl)

  module _ (rows : List (List ℕ × T)) (numbers : List (List ℕ × ℕ)) (next : ℕ) (t : IsTable key rows numbers next) where
    -- ---- what an id's number leads to

    pub has_row : (id : List ℕ) (n : ℕ) → lookup id numbers ≡ Some n → (e : List ℕ × T) × (row_by key rows id ≡ Some e) × (n ∷ [] ≡ e.0)
    has_row id n h = by (row_by key rows id) refl (sym (ap (option_map (λ m. m ∷ [])) h) ∙ t.found id)
      where
        by : (o : Option (List ℕ × T)) → row_by key rows id ≡ o → Some (n ∷ []) ≡ option_map (λ e. e.0) o → (e : List ℕ × T) × (row_by key rows id ≡ Some e) × (n ∷ [] ≡ e.0)
        by None g k = absurd (cc)
        by (Some e) g k = let same : n ∷ [] ≡ e.0 = cc in (e, g, same)

    pub value_there : (id : List ℕ) (n : ℕ) → lookup id numbers ≡ Some n → lookup (n ∷ []) rows ≡ find_by key (values_of rows) id
    value_there id n h =
        let r = has_row id n h in
        found_value key id rows (n ∷ []) r.0 t.ordered t.distinct r.1 r.2 ∙ sym (value_of_row key id rows ∙ ap (option_map (λ e. e.1)) r.1)

    -- the place of the id's row, and the value at it
    pub place_there : (id : List ℕ) (n : ℕ) → lookup id numbers ≡ Some n
        → (place : ℕ) × (place_of (n ∷ []) rows ≡ Some place) × (slice_get (values_of rows) place ≡ find_by key (values_of rows) id) × (is_some (find_by key (values_of rows) id) ≡ true)
    place_there id n h =
        let r = has_row id n h in
        let p = row_place key id rows (n ∷ []) r.0 t.ordered t.distinct r.1 r.2 in
        let value : find_by key (values_of rows) id ≡ Some r.0.1 = value_of_row key id rows ∙ ap (option_map (λ e. e.1)) r.1 in
        (length (parts key id rows (n ∷ []) r.0 t.ordered t.distinct r.1 r.2).before, p.0, p.1 ∙ sym value, ap is_some value)

    pub none_there : (id : List ℕ) → lookup id numbers ≡ None → find_by key (values_of rows) id ≡ None
    none_there id h = value_of_row key id rows ∙ by (row_by key rows id) (sym (ap (option_map (λ m. m ∷ [])) h) ∙ t.found id)
      where
        by : (o : Option (List ℕ × T)) → None ≡ option_map (λ e. e.0) o → option_map (λ e. e.1) o ≡ None
        by None k = refl
        by (Some e) k = absurd (cc)

    no_row_of : (id : List ℕ) → find_by key (values_of rows) id ≡ None → row_by key rows id ≡ None
    no_row_of id h = by (row_by key rows id) refl (sym (value_of_row key id rows) ∙ h)
      where
        by : (o : Option (List ℕ × T)) → row_by key rows id ≡ o → option_map (λ e. e.1) o ≡ None → row_by key rows id ≡ None
        by None g k = g
        by (Some e) g k = absurd (cc)

    -- ---- edits

    pub pushed_values : (v : T) → values_of (put (next ∷ []) v rows) ≡ values_of rows ++ v ∷ []
    pushed_values v = ap values_of (put_last (next ∷ []) v rows t.earlier) ∙ values_pushed rows (next ∷ [], v)

    pub pushed : (v : T) → find_by key (values_of rows) (key v) ≡ None → IsTable key (put (next ∷ []) v rows) (put (key v) next numbers) (next + 1)
    pushed v h =
        let last = put_last (next ∷ []) v rows t.earlier in
        record {
          found = λ id. ap (option_map (λ m. m ∷ [])) (put_is_found numbers (key v) next id) ∙ found id (bytes_eq id (key v)) refl ∙ sym (ap (λ es. option_map (λ e. e.0) (row_by key es id)) last);
          distinct = subst (λ vs. IsDistinct bytes_eq (map key vs)) (sym (pushed_values v)) (distinct_more key v (values_of rows) (ap is_some h) t.distinct);
          ordered = ascends_put (next ∷ []) v rows t.ordered;
          earlier = subst (λ es. AllByRecursion (λ e. code_cmp ((next + 1) ∷ []) e.0 ≡ Greater) es) (sym last)
              (one_more (λ e. code_cmp ((next + 1) ∷ []) e.0 ≡ Greater) rows (next ∷ [], v) (all_above next rows t.earlier) (last_above next));
        }
      where
        found : (id : List ℕ) (b : Bool) → bytes_eq id (key v) ≡ b
            → option_map (λ m. m ∷ []) (cond b (Some next) (lookup id numbers)) ≡ option_map (λ e. e.0) (row_by key (rows ++ (next ∷ [], v) ∷ []) id)
        found id true e =
            sym (ap (option_map (λ x. x.0))
            (last_row id rows (next ∷ [], v) (no_row_of id (ap (find_by key (values_of rows)) (same_bytes id (key v) e) ∙ h))
            ∙ ap (λ b. cond b (Some (next ∷ [], v)) None) e))
        found id false e = t.found id ∙ sym (ap (option_map (λ x. x.0)) (other_row id rows (next ∷ [], v) e))

    module _ (v : T) (n : ℕ) (h : lookup (key v) numbers ≡ Some n) where
      as_swapped : put (n ∷ []) v rows ≡ map (swapped key (key v) v) rows
      as_swapped = let r = has_row (key v) n h in put_row key (key v) rows (n ∷ []) r.0 t.ordered t.distinct r.1 r.2 v

      pub changed_dense : (dense : ℕ) → AreAtNumbers dense rows → AreAtNumbers dense (put (n ∷ []) v rows)
      changed_dense dense a = subst (λ es. AreAtNumbers dense es) (sym as_swapped) (dense_changed dense rows (swapped key (key v) v) (λ e. refl) a)

      pub changed_values : values_of (put (n ∷ []) v rows) ≡ put_by key (values_of rows) v
      changed_values = ap values_of as_swapped ∙ values_swapped key (key v) v rows

      pub changed : IsTable key (put (n ∷ []) v rows) numbers next
      changed = record {
        found = λ id. t.found id ∙ sym (swapped_row v rows id) ∙ sym (ap (λ es. option_map (λ e. e.0) (row_by key es id)) as_swapped);
        distinct = subst (λ es. IsDistinct bytes_eq (map key (values_of es))) (sym as_swapped) (subst (λ ks. IsDistinct bytes_eq ks) (sym (swapped_keys v rows)) t.distinct);
        ordered = ascends_put (n ∷ []) v rows t.ordered;
        earlier = subst (λ es. AllByRecursion (λ e. code_cmp (next ∷ []) e.0 ≡ Greater) es) (sym as_swapped) (swapped_codes (λ c. code_cmp (next ∷ []) c ≡ Greater) v rows t.earlier);
      }

    module _ (id : List ℕ) (n : ℕ) (h : lookup id numbers ≡ Some n) where
      as_kept : code_without (n ∷ []) rows ≡ filter (λ x. not (bytes_eq id (key x.1))) rows
      as_kept = let r = has_row id n h in without_row key id rows (n ∷ []) r.0 t.ordered t.distinct r.1 r.2

      pub taken_values : values_of (code_without (n ∷ []) rows) ≡ without key (values_of rows) id
      taken_values = ap values_of as_kept ∙ values_kept key id rows

      pub taken : IsTable key (code_without (n ∷ []) rows) (code_without id numbers) next
      taken = record {
        found = λ j.
            ap (option_map (λ m. m ∷ [])) (taken_is_gone numbers id j) ∙ found j (bytes_eq j id)
            ∙ sym (ap (λ es. option_map (λ e. e.0) (row_by key es j)) as_kept ∙ ap (option_map (λ e. e.0)) (left_row id j rows));
        distinct = subst (λ vs. IsDistinct bytes_eq (map key vs)) (sym taken_values) (distinct_filter bytes_eq key (λ x. not (bytes_eq id (key x))) (values_of rows) t.distinct);
        ordered = ascends_without (n ∷ []) rows t.ordered;
        earlier = subst (λ es. AllByRecursion (λ e. code_cmp (next ∷ []) e.0 ≡ Greater) es) (sym as_kept)
            (kept_all (λ e. code_cmp (next ∷ []) e.0 ≡ Greater) (λ x. not (bytes_eq id (key x.1))) rows t.earlier);
      }
        where
          found : (j : List ℕ) (b : Bool) → option_map (λ m. m ∷ []) (cond b None (lookup j numbers)) ≡ option_map (λ e. e.0) (cond b None (row_by key rows j))
          found j true = refl
          found j false = t.found j
