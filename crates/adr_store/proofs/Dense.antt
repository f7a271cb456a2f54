-- Rows that stand at the places of their numbers, and how many do after an edit.
use Rattle.std.proofs.Common.{◌≡◌, ◌==◌, ◌&&◌, ◌⊎◌, inl, inr, ℕ, zero, suc, ◌+◌, ◌<◌, ◌≤◌, Bool, true, false, not, cond, List, [], ◌∷◌, ◌++◌, map, filter, length, slice_get, min, Option, Some, None, refl, sym, ap, subst, ◌∙◌, if◌then◌else◌, arith, eqb-true}
use Rattle.std.specs.declared.cmp.Ordering.{Ordering}
use Rattle.std.specs.declared.cmp.Ordering.TheVariants.{Less, Equal, Greater}
use Rattle.std.specs.Ordering.{nat_cmp, is_eq, ordering_reverse, ordering_then}
use Rattle.std.specs.Cmp.Lexicographic.{nat_list_cmp_total}
use Rattle.std.specs.List.{AllByRecursion}
use Rattle.std.specs.Option.{option_map}
use Rattle.std.proofs.lemmas.Bool.{and_parts}
use Rattle.adr_shared.specs.Map.{code_cmp, IsAscending, AreBelow, put, place_of, without as code_without}
use Rattle.adr_shared.proofs.Parts.{parted, place_at}
use Rattle.adr_shared.proofs.LookUps.{own_code}
use Rattle.adr_shared.proofs.Last.{put_last}
use Rattle.adr_store.specs.Table.{AreAtNumbers, dense_with}

-- the code of a smaller number is below that of a greater one
number_below : (n m : ℕ) → n < m → nat_cmp m n ≡ Greater
number_below n m h = grind (arith, h)

code_below : (n m : ℕ) → n < m → code_cmp (m ∷ []) (n ∷ []) ≡ Greater
code_below n m h = ap (λ o. ordering_then o (code_cmp [] [])) (number_below n m h)

last_or_earlier : (n m : ℕ) → n < m + 1 → (n < m) ⊎ (n ≡ m)
last_or_earlier n m h = grind (arith, h)

module _ {T : Type 0} where
  -- what holds of all rows holds of the one at a place
  all_at : (P : List ℕ × T → Type 0) (rows : List (List ℕ × T)) (n : ℕ) (e : List ℕ × T) → AllByRecursion P rows → slice_get rows n ≡ Some e → P e
  all_at P [] n e a h = absurd (cc)
  all_at P (x ∷ rows) zero e a h = let same : x ≡ e = cc in subst P same a.0
  all_at P (x ∷ rows) (suc n) e a h = all_at P rows n e a.1 h

  -- the row at a place, with as many before it
  pub record StandsAt (rows : List (List ℕ × T)) (n : ℕ) (e : List ℕ × T) : Type 0 where
    pub before : List (List ℕ × T)
    pub after : List (List ℕ × T)
    pub is : rows ≡ before ++ e ∷ after
    pub many : length before ≡ n

  stands_at : (rows : List (List ℕ × T)) (n : ℕ) (e : List ℕ × T) → slice_get rows n ≡ Some e → StandsAt rows n e
  stands_at [] n e h = absurd (cc)
  stands_at (x ∷ rows) zero e h = let same : x ≡ e = cc in record { before = []; after = rows; is = ap (λ y. y ∷ rows) same; many = refl }
  stands_at (x ∷ rows) (suc n) e h =
      let rest = stands_at rows n e h in
      record { before = x ∷ rest.before; after = rest.after; is = ap (λ ys. x ∷ ys) rest.is; many = ap (λ k. suc k) rest.many }

  -- the row of a number below the bound
  row_at : (bound : ℕ) (rows : List (List ℕ × T)) → AreAtNumbers bound rows → (n : ℕ) → n < bound → (e : List ℕ × T) × (slice_get rows n ≡ Some e) × (e.0 ≡ n ∷ [])
  row_at bound rows f n h = by (slice_get rows n) refl (f n h)
    where
      by : (o : Option (List ℕ × T)) → slice_get rows n ≡ o → option_map (λ e. e.0) o ≡ Some (n ∷ []) → (e : List ℕ × T) × (slice_get rows n ≡ Some e) × (e.0 ≡ n ∷ [])
      by None g k = absurd (cc)
      by (Some e) g k = let code : e.0 ≡ n ∷ [] = cc in (e, g, code)

  -- the place of a number below the bound is the number
  pub place_is_number : (bound : ℕ) (rows : List (List ℕ × T)) → AreAtNumbers bound rows → IsAscending rows → (n : ℕ) → n < bound → place_of (n ∷ []) rows ≡ Some n
  place_is_number bound rows f s n h =
      let r = row_at bound rows f n h in
      let p = stands_at rows n r.0 r.1 in
      let same : code_cmp (n ∷ []) r.0.0 ≡ Equal = ap (λ c. code_cmp (n ∷ []) c) r.2 ∙ own_code (n ∷ []) in
      ap (place_of (n ∷ [])) p.is ∙ place_at (n ∷ []) p.before r.0 p.after same (subst (λ es. IsAscending es) p.is s) ∙ ap (λ k. Some k) p.many

  -- ---- after an edit

  front_stays : (rows more : List (List ℕ × T)) (n : ℕ) (e : List ℕ × T) → slice_get rows n ≡ Some e → slice_get (rows ++ more) n ≡ Some e
  front_stays [] more n e h = absurd (cc)
  front_stays (x ∷ rows) more zero e h = h
  front_stays (x ∷ rows) more (suc n) e h = front_stays rows more n e h

  last_is : (rows : List (List ℕ × T)) (e : List ℕ × T) → slice_get (rows ++ e ∷ []) (length rows) ≡ Some e
  last_is [] e = refl
  last_is (x ∷ rows) e = last_is rows e

  numbers_stay : (bound : ℕ) (rows more : List (List ℕ × T)) → AreAtNumbers bound rows → AreAtNumbers bound (rows ++ more)
  numbers_stay bound rows more f n h =
      let r = row_at bound rows f n h in ap (option_map (λ e. e.0)) (front_stays rows more n r.0 r.1) ∙ ap (λ c. Some c) r.2

  pub dense_pushed : (dense next : ℕ) (rows : List (List ℕ × T)) (v : T) → AreBelow next rows → AreAtNumbers dense rows
      → AreAtNumbers (dense_with dense next (length rows)) (put (next ∷ []) v rows)
  dense_pushed dense next rows v below f =
      subst (λ es. AreAtNumbers (dense_with dense next (length rows)) es) (sym (put_last (next ∷ []) v rows below)) (by (dense == next && length rows == next) refl)
    where
      by : (b : Bool) → (dense == next && length rows == next) ≡ b → AreAtNumbers (if b then next + 1 else dense) (rows ++ (next ∷ [], v) ∷ [])
      by false e = numbers_stay dense rows ((next ∷ [], v) ∷ []) f
      by true e = λ n h. at n (last_or_earlier n next h)
        where
          are : (dense == next) ≡ true × (length rows == next) ≡ true
          are = and_parts (dense == next) (length rows == next) e

          at : (n : ℕ) → (n < next) ⊎ (n ≡ next) → option_map (λ x. x.0) (slice_get (rows ++ (next ∷ [], v) ∷ []) n) ≡ Some (n ∷ [])
          at n (inl h) = numbers_stay dense rows ((next ∷ [], v) ∷ []) f n (subst (λ k. n < k) (sym (eqb-true dense next are.0)) h)
          at n (inr h) =
              ap (λ k. option_map (λ x. x.0) (slice_get (rows ++ (next ∷ [], v) ∷ []) k)) (h ∙ sym (eqb-true (length rows) next are.1))
              ∙ ap (option_map (λ x. x.0)) (last_is rows (next ∷ [], v)) ∙ ap (λ k. Some (k ∷ [])) (sym h)

  pub dense_changed : (dense : ℕ) (rows : List (List ℕ × T)) (f : List ℕ × T → List ℕ × T) → ((e : List ℕ × T) → (f e).0 ≡ e.0) → AreAtNumbers dense rows → AreAtNumbers dense (map f rows)
  dense_changed dense rows f keeps a n h = at rows n ∙ a n h
    where
      at : (rows : List (List ℕ × T)) (n : ℕ) → option_map (λ e. e.0) (slice_get (map f rows) n) ≡ option_map (λ e. e.0) (slice_get rows n)
      at [] n = refl
      at (x ∷ rows) zero = ap (λ c. Some c) (keeps x)
      at (x ∷ rows) (suc n) = at rows n

  -- a row before the one that goes stays at its place
  earlier_stays : (gone : List ℕ) (rows : List (List ℕ × T)) (n : ℕ) (e : List ℕ × T) → IsAscending rows → slice_get rows n ≡ Some e → code_cmp gone e.0 ≡ Greater → slice_get (code_without gone rows) n ≡ Some e
  earlier_stays gone [] n e s h g = absurd (cc)
  earlier_stays gone (x ∷ rows) zero e s h g =
      let same : x ≡ e = cc in rw (ap is_eq (subst (λ (y : List ℕ × T). code_cmp gone y.0 ≡ Greater) (sym same) g)) (ap (λ y. Some y) same)
  earlier_stays gone (x ∷ rows) (suc n) e s h g =
      let parts = parted [] x rows s in
      let before : code_cmp x.0 e.0 ≡ Less = all_at (λ y. code_cmp x.0 y.0 ≡ Less) rows n e parts.after h in
      let after : code_cmp e.0 gone ≡ Less = nat_list_cmp_total.antisymm e.0 gone ∙ ap ordering_reverse g in
      let left : code_cmp gone x.0 ≡ Greater = nat_list_cmp_total.antisymm gone x.0 ∙ ap ordering_reverse (nat_list_cmp_total.trans x.0 e.0 gone before after) in
      rw (ap is_eq left) (earlier_stays gone rows n e parts.right h g)

  pub dense_taken : (dense number : ℕ) (rows : List (List ℕ × T)) → IsAscending rows → AreAtNumbers dense rows → AreAtNumbers (min dense number) (code_without (number ∷ []) rows)
  dense_taken dense number rows s f n h =
      let r = row_at dense rows f n (omega (arith, h)) in
      let before : code_cmp (number ∷ []) r.0.0 ≡ Greater = ap (λ c. code_cmp (number ∷ []) c) r.2 ∙ code_below n number (omega (arith, h)) in
      ap (option_map (λ e. e.0)) (earlier_stays (number ∷ []) rows n r.0 s r.1 before) ∙ ap (λ c. Some c) r.2
