-- Lists in a strict order: what is put in order, and that two of them are equal where their elements are.
use Rattle.std.proofs.Common.{◌≡◌, cond, List, [], ◌∷◌, ◌⊎◌, inl, inr, refl, sym, ap, subst, ◌∙◌}
use Rattle.std.specs.Cmp.{IsTotalOrder}
use Rattle.std.specs.declared.cmp.Ordering.{Ordering}
use Rattle.std.specs.declared.cmp.Ordering.TheVariants.{Less, Equal, Greater}
use Rattle.std.specs.Ordering.{is_eq, is_lt, ordering_reverse}
use Rattle.std.specs.List.{AllByRecursion}
use Rattle.std.specs.List.Sorted.{IsStrictlySortedBy}
use Rattle.adr_model.specs.Lists.{In}
use Rattle.adr_model.specs.Queries.{in_order, put_in_order}
use Rattle.adr_model.proofs.Lists.{each_from_In, In_from_each}

module _ {X : Type 0} (cmp : X → X → Ordering) (total : IsTotalOrder cmp) (same : (x y : X) → cmp x y ≡ Equal → x ≡ y) where
  turned : (x y : X) (o : Ordering) → cmp x y ≡ o → cmp y x ≡ ordering_reverse o
  turned x y o e = total.antisymm y x ∙ ap ordering_reverse e

  In-from_put : (x : X) (ys : List X) (z : X) → In z (put_in_order cmp x ys) → In z (x ∷ ys)
  In-from_put x [] z m = m
  In-from_put x (y ∷ ys) z m = by (cmp x y) m (In-from_put x ys z)
    where
      swapped : In z (x ∷ ys) → In z (x ∷ y ∷ ys)
      swapped (inl e) = inl e
      swapped (inr n) = inr (inr n)

      further : (y ≡ z) ⊎ In z (put_in_order cmp x ys) → (In z (put_in_order cmp x ys) → In z (x ∷ ys)) → In z (x ∷ y ∷ ys)
      further (inl e) rest = inr (inl e)
      further (inr n) rest = swapped (rest n)

      by : (o : Ordering) → In z (cond (is_lt o) (x ∷ y ∷ ys) (cond (is_eq o) (y ∷ ys) (y ∷ put_in_order cmp x ys)))
          → (In z (put_in_order cmp x ys) → In z (x ∷ ys)) → In z (x ∷ y ∷ ys)
      by Less n rest = n
      by Equal n rest = inr n
      by Greater n rest = further n rest

  -- what is put in order was there
  pub In-from_in_order : (xs : List X) (z : X) → In z (in_order cmp xs) → In z xs
  In-from_in_order [] z m = m
  In-from_in_order (x ∷ xs) z m = by (In-from_put x (in_order cmp xs) z m) (In-from_in_order xs z)
    where
      by : (x ≡ z) ⊎ In z (in_order cmp xs) → (In z (in_order cmp xs) → In z xs) → (x ≡ z) ⊎ In z xs
      by (inl e) rest = inl e
      by (inr n) rest = inr (rest n)

  later : (x y z : X) (ys : List X) → cmp x y ≡ Less → AllByRecursion (λ w. cmp y w ≡ Less) ys → In z (y ∷ ys) → cmp x z ≡ Less
  later x y z ys less above (inl e) = subst (λ w. cmp x w ≡ Less) e less
  later x y z ys less above (inr m) = total.trans x y z less (In_from_each (λ w. cmp y w ≡ Less) ys above z m)

  put_sorted : (x : X) (ys : List X) → IsStrictlySortedBy cmp ys → IsStrictlySortedBy cmp (put_in_order cmp x ys)
  unfolding IsStrictlySortedBy
  put_sorted x [] sorted = (tt, tt)
  put_sorted x (y ∷ ys) sorted = by (cmp x y) refl (put_sorted x ys sorted.1)
    where
      above : cmp x y ≡ Greater → (z : X) → In z (x ∷ ys) → cmp y z ≡ Less
      above e z (inl is) = subst (λ w. cmp y w ≡ Less) is (turned x y Greater e)
      above e z (inr m) = In_from_each (λ w. cmp y w ≡ Less) ys sorted.0 z m

      by : (o : Ordering) → cmp x y ≡ o → IsStrictlySortedBy cmp (put_in_order cmp x ys)
          → IsStrictlySortedBy cmp (cond (is_lt o) (x ∷ y ∷ ys) (cond (is_eq o) (y ∷ ys) (y ∷ put_in_order cmp x ys)))
      by Less e rest = (each_from_In (λ w. cmp x w ≡ Less) (y ∷ ys) (λ z m. later x y z ys e sorted.0 m), sorted)
      by Equal e rest = sorted
      by Greater e rest = (each_from_In (λ w. cmp y w ≡ Less) (put_in_order cmp x ys) (λ z m. above e z (In-from_put x ys z m)), rest)

  pub in_order_sorted : (xs : List X) → IsStrictlySortedBy cmp (in_order cmp xs)
  unfolding IsStrictlySortedBy
  in_order_sorted [] = tt
  in_order_sorted (x ∷ xs) = put_sorted x (in_order cmp xs) (in_order_sorted xs)

  not_less : (x y : X) → cmp x y ≡ Less → cmp y x ≡ Less → ⊥
  not_less x y h k = let back : cmp y x ≡ Greater = turned x y Less h in absurd (cc)

  not_below_itself : (x : X) → cmp x x ≡ Less → ⊥
  not_below_itself x h = not_less x x h h

  -- lists in order that have the same elements are equal
  pub sorted_same : (xs ys : List X) → IsStrictlySortedBy cmp xs → IsStrictlySortedBy cmp ys
      → ((z : X) → In z xs → In z ys) → ((z : X) → In z ys → In z xs) → xs ≡ ys
  unfolding IsStrictlySortedBy
  sorted_same [] [] s t to fro = refl
  sorted_same [] (y ∷ ys) s t to fro = absurd (fro y (inl refl))
  sorted_same (x ∷ xs) [] s t to fro = absurd (to x (inl refl))
  sorted_same (x ∷ xs) (y ∷ ys) s t to fro = with_rest (sorted_same xs ys s.1 t.1)
    where
      first_by : (y ≡ x) ⊎ In x ys → (x ≡ y) ⊎ In y xs → x ≡ y
      first_by (inl e) m = sym e
      first_by (inr n) (inl e) = e
      first_by (inr n) (inr m) =
          absurd (not_less x y (In_from_each (λ w. cmp x w ≡ Less) xs s.0 y m) (In_from_each (λ w. cmp y w ≡ Less) ys t.0 x n))

      first : x ≡ y
      first = first_by (to x (inl refl)) (fro y (inl refl))

      to_rest_by : (z : X) → In z xs → (y ≡ z) ⊎ In z ys → In z ys
      to_rest_by z m (inl e) =
          absurd (not_below_itself x (subst (λ w. cmp x w ≡ Less) (sym e ∙ sym first) (In_from_each (λ w. cmp x w ≡ Less) xs s.0 z m)))
      to_rest_by z m (inr n) = n

      to_rest : (z : X) → In z xs → In z ys
      to_rest z m = to_rest_by z m (to z (inr m))

      fro_rest_by : (z : X) → In z ys → (x ≡ z) ⊎ In z xs → In z xs
      fro_rest_by z m (inl e) =
          absurd (not_below_itself y (subst (λ w. cmp y w ≡ Less) (sym e ∙ first) (In_from_each (λ w. cmp y w ≡ Less) ys t.0 z m)))
      fro_rest_by z m (inr n) = n

      fro_rest : (z : X) → In z ys → In z xs
      fro_rest z m = fro_rest_by z m (fro z (inr m))

      with_rest : (((z : X) → In z xs → In z ys) → ((z : X) → In z ys → In z xs) → xs ≡ ys) → x ∷ xs ≡ y ∷ ys
      with_rest rest = ap (λ z. z ∷ xs) first ∙ ap (λ zs. y ∷ zs) (rest to_rest fro_rest)
