-- The rows of a table: what a look-up finds, and what stays true as a row is added, changed or taken out.
use Rattle.std.proofs.Common.{◌≡◌, ℕ, Bool, true, false, not, cond, List, [], ◌∷◌, ◌++◌, map, filter, length, slice_get, Some, None, refl, sym, ap, subst, ◌∙◌, if◌then◌else◌}
use Rattle.std.specs.declared.cmp.Ordering.TheVariants.{Equal}
use Rattle.std.specs.List.{AllByRecursion, IsDistinct}
use Rattle.std.specs.Map.{values_of}
use Rattle.std.specs.Option.{option_map}
use Rattle.std.specs.Str.{bytes_eq}
use Rattle.adr_model.proofs.Lists.{same_bytes}
use Rattle.adr_shared.specs.Map.{code_cmp, IsAscending, lookup, put, without as code_without, place_of}
use Rattle.adr_shared.proofs.Parts.{lookup_at, put_at, without_at, place_at}
use Rattle.adr_shared.proofs.LookUps.{own_code}
use Rattle.adr_store.specs.Table.{find_by, row_by, without}

module _ {T : Type 0} (key : T → List ℕ) where
  -- no row's value has the id
  abbrev pub IsAbsent : List ℕ → List (List ℕ × T) → Type 0
  IsAbsent id rows = AllByRecursion (λ e. bytes_eq id (key e.1) ≡ false) rows

  -- the row with v in the place of a value with the id
  abbrev pub swapped : List ℕ → T → List ℕ × T → List ℕ × T
  swapped id v e = (e.0, if bytes_eq id (key e.1) then v else e.1)

  -- a row stands between those before it and those after it, which have other ids
  pub record IsAmong (id : List ℕ) (rows : List (List ℕ × T)) (e : List ℕ × T) : Type 0 where
    pub before : List (List ℕ × T)
    pub after : List (List ℕ × T)
    pub is : rows ≡ before ++ e ∷ after
    pub here : bytes_eq id (key e.1) ≡ true
    pub none_before : IsAbsent id before
    pub none_after : IsAbsent id after

  -- a look-up among the values is one among the rows
  pub value_of_row : (id : List ℕ) (rows : List (List ℕ × T)) → find_by key (values_of rows) id ≡ option_map (λ e. e.1) (row_by key rows id)
  value_of_row id [] = refl
  value_of_row id (e ∷ rows) = by (bytes_eq id (key e.1)) (value_of_row id rows)
    where
      by : (b : Bool) → find_by key (values_of rows) id ≡ option_map (λ x. x.1) (row_by key rows id)
          → cond b (Some e.1) (find_by key (values_of rows) id) ≡ option_map (λ x. x.1) (cond b (Some e) (row_by key rows id))
      by true rest = refl
      by false rest = rest

  absent_after : (id : List ℕ) (e : List ℕ × T) → bytes_eq id (key e.1) ≡ true → (rows : List (List ℕ × T))
      → AllByRecursion (λ k. bytes_eq (key e.1) k ≡ false) (map key (values_of rows)) → IsAbsent id rows
  absent_after id e h [] d = tt
  absent_after id e h (x ∷ rows) d = (subst (λ k. bytes_eq k (key x.1) ≡ false) (sym (same_bytes id (key e.1) h)) d.0, absent_after id e h rows d.1)

  -- the row that a look-up finds parts the rows
  pub row_parts : (id : List ℕ) (rows : List (List ℕ × T)) (e : List ℕ × T) → IsDistinct bytes_eq (map key (values_of rows)) → row_by key rows id ≡ Some e → IsAmong id rows e
  unfolding IsDistinct
  row_parts id [] e d h = absurd (cc)
  row_parts id (x ∷ rows) e d h = by (bytes_eq id (key x.1)) refl (row_parts id rows e d.1) h
    where
      by : (b : Bool) → bytes_eq id (key x.1) ≡ b → (row_by key rows id ≡ Some e → IsAmong id rows e) → cond b (Some x) (row_by key rows id) ≡ Some e → IsAmong id (x ∷ rows) e
      by true f rest k =
          let same : x ≡ e = cc in
          record {
            before = [];
            after = rows;
            is = ap (λ y. y ∷ rows) same;
            here = subst (λ (y : List ℕ × T). bytes_eq id (key y.1) ≡ true) same f;
            none_before = tt;
            none_after = absent_after id x f rows d.0;
          }
      by false f rest k =
          let r = rest k in
          record {
            before = x ∷ r.before;
            after = r.after;
            is = ap (λ ys. x ∷ ys) r.is;
            here = r.here;
            none_before = (f, r.none_before);
            none_after = r.none_after;
          }

  no_row : (id : List ℕ) (rows : List (List ℕ × T)) → row_by key rows id ≡ None → IsAbsent id rows
  no_row id [] h = tt
  no_row id (x ∷ rows) h = by (bytes_eq id (key x.1)) refl (no_row id rows) h
    where
      by : (b : Bool) → bytes_eq id (key x.1) ≡ b → (row_by key rows id ≡ None → IsAbsent id rows) → cond b (Some x) (row_by key rows id) ≡ None
          → (bytes_eq id (key x.1) ≡ false) × IsAbsent id rows
      by true f rest k = absurd (cc)
      by false f rest k = (f, rest k)

  absent_row : (id : List ℕ) (rows : List (List ℕ × T)) → IsAbsent id rows → row_by key rows id ≡ None
  absent_row id [] a = refl
  absent_row id (x ∷ rows) a = rw a.0 (absent_row id rows a.1)

  -- ---- what an edit of the rows is, value by value

  stays : (id : List ℕ) (v : T) (rows : List (List ℕ × T)) → IsAbsent id rows → map (swapped id v) rows ≡ rows
  stays id v [] a = refl
  stays id v (x ∷ rows) a = rw a.0 (ap (λ ys. x ∷ ys) (stays id v rows a.1))

  all_kept : (id : List ℕ) (rows : List (List ℕ × T)) → IsAbsent id rows → filter (λ e. not (bytes_eq id (key e.1))) rows ≡ rows
  all_kept id [] a = refl
  all_kept id (x ∷ rows) a = rw a.0 (ap (λ ys. x ∷ ys) (all_kept id rows a.1))

  swapped_parts : (id : List ℕ) (v : T) (before after : List (List ℕ × T)) (e : List ℕ × T) → bytes_eq id (key e.1) ≡ true → IsAbsent id before → IsAbsent id after
      → map (swapped id v) (before ++ e ∷ after) ≡ before ++ (e.0, v) ∷ after
  swapped_parts id v [] after e h b a = rw h (ap (λ ys. (e.0, v) ∷ ys) (stays id v after a))
  swapped_parts id v (x ∷ before) after e h b a = rw b.0 (ap (λ ys. x ∷ ys) (swapped_parts id v before after e h b.1 a))

  kept_parts : (id : List ℕ) (before after : List (List ℕ × T)) (e : List ℕ × T) → bytes_eq id (key e.1) ≡ true → IsAbsent id before → IsAbsent id after
      → filter (λ x. not (bytes_eq id (key x.1))) (before ++ e ∷ after) ≡ before ++ after
  kept_parts id [] after e h b a = rw h (all_kept id after a)
  kept_parts id (x ∷ before) after e h b a = rw b.0 (ap (λ ys. x ∷ ys) (kept_parts id before after e h b.1 a))

  -- the row of the value with the id, by its number
  module _ (id : List ℕ) (rows : List (List ℕ × T)) (code : List ℕ) (e : List ℕ × T) (s : IsAscending rows) (d : IsDistinct bytes_eq (map key (values_of rows)))
      (h : row_by key rows id ≡ Some e) (n : code ≡ e.0) where
    pub parts : IsAmong id rows e
    parts = row_parts id rows e d h

    same_number : code_cmp code e.0 ≡ Equal
    same_number = ap (λ c. code_cmp c e.0) n ∙ own_code e.0

    in_order : IsAscending (parts.before ++ e ∷ parts.after)
    in_order = subst (λ es. IsAscending es) parts.is s

    pub found_value : lookup code rows ≡ Some e.1
    found_value = ap (lookup code) parts.is ∙ lookup_at code parts.before e parts.after same_number in_order

    pub put_row : (v : T) → put code v rows ≡ map (swapped id v) rows
    put_row v =
        ap (put code v) parts.is ∙ put_at code v parts.before e parts.after same_number in_order
        ∙ ap (λ c. parts.before ++ (c, v) ∷ parts.after) n
        ∙ sym (swapped_parts id v parts.before parts.after e parts.here parts.none_before parts.none_after) ∙ sym (ap (map (swapped id v)) parts.is)

    pub without_row : code_without code rows ≡ filter (λ x. not (bytes_eq id (key x.1))) rows
    without_row =
        ap (code_without code) parts.is ∙ without_at code parts.before e parts.after same_number in_order
        ∙ sym (kept_parts id parts.before parts.after e parts.here parts.none_before parts.none_after)
        ∙ sym (ap (filter (λ x. not (bytes_eq id (key x.1)))) parts.is)

    pub row_place : (place_of code rows ≡ Some (length parts.before)) × (slice_get (values_of rows) (length parts.before) ≡ Some e.1)
    row_place = (
      ap (place_of code) parts.is ∙ place_at code parts.before e parts.after same_number in_order,
      ap (λ es. slice_get (values_of es) (length parts.before)) parts.is ∙ at_place parts.before parts.after,
    )
      where
        at_place : (xs ys : List (List ℕ × T)) → slice_get (values_of (xs ++ e ∷ ys)) (length xs) ≡ Some e.1
        at_place [] ys = refl
        at_place (x ∷ xs) ys = at_place xs ys

  -- ---- the values of edited rows

  pub values_swapped : (id : List ℕ) (v : T) (rows : List (List ℕ × T)) → values_of (map (swapped id v) rows) ≡ map (λ y. if bytes_eq id (key y) then v else y) (values_of rows)
  values_swapped id v [] = refl
  values_swapped id v (x ∷ rows) = ap (λ vs. (if bytes_eq id (key x.1) then v else x.1) ∷ vs) (values_swapped id v rows)

  pub values_kept : (id : List ℕ) (rows : List (List ℕ × T)) → values_of (filter (λ x. not (bytes_eq id (key x.1))) rows) ≡ without key (values_of rows) id
  values_kept id [] = refl
  values_kept id (x ∷ rows) = by (not (bytes_eq id (key x.1))) (values_kept id rows)
    where
      by : (b : Bool) → values_of (filter (λ y. not (bytes_eq id (key y.1))) rows) ≡ without key (values_of rows) id
          → values_of (cond b (x ∷ filter (λ y. not (bytes_eq id (key y.1))) rows) (filter (λ y. not (bytes_eq id (key y.1))) rows)) ≡ cond b (x.1 ∷ without key (values_of rows) id) (without key (values_of rows) id)
      by true rest = ap (λ vs. x.1 ∷ vs) rest
      by false rest = rest
