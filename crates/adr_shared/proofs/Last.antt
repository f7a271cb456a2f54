-- Entries that go last, under numbers that grow.
use Rattle.std.proofs.Common.{◌≡◌, ℕ, ◌+◌, List, [], ◌∷◌, ◌++◌, refl, ap, sym, subst, ◌∙◌, arith}
use Rattle.std.specs.declared.cmp.Ordering.{Ordering}
use Rattle.std.specs.declared.cmp.Ordering.TheVariants.{Less, Equal, Greater}
use Rattle.std.specs.Ordering.{nat_cmp, is_lt, is_gt, ordering_then}
use Rattle.std.specs.List.{AllByRecursion}
use Rattle.std.specs.Map.{values_of}
use Rattle.adr_shared.specs.Map.{code_cmp, AreBelow, below, above, put}

-- ---- codes of numbers that grow

number_above : (n m : ℕ) → nat_cmp n m ≡ Greater → nat_cmp (n + 1) m ≡ Greater
number_above n m h = grind (arith, h)

equal_above : (n m : ℕ) → nat_cmp n m ≡ Equal → nat_cmp (n + 1) m ≡ Greater
equal_above n m h = grind (arith, h)

next_above : (n : ℕ) → nat_cmp (n + 1) n ≡ Greater
next_above n = grind arith

pub last_above : (n : ℕ) → code_cmp ((n + 1) ∷ []) (n ∷ []) ≡ Greater
last_above n = ap (λ o. ordering_then o (code_cmp [] [])) (next_above n)

-- what is below a number's code is below the next one's
code_above : (n : ℕ) (c : List ℕ) → code_cmp (n ∷ []) c ≡ Greater → code_cmp ((n + 1) ∷ []) c ≡ Greater
code_above n [] h = refl
code_above n (m ∷ ms) h = by (nat_cmp n m) refl h
  where
    by : (o : Ordering) → nat_cmp n m ≡ o → ordering_then o (code_cmp [] ms) ≡ Greater → ordering_then (nat_cmp (n + 1) m) (code_cmp [] ms) ≡ Greater
    by Greater e k = ap (λ o. ordering_then o (code_cmp [] ms)) (number_above n m e)
    by Equal e k = ap (λ o. ordering_then o (code_cmp [] ms)) (equal_above n m e)
    by Less e k = absurd (cc)

module _ {T : Type 0} where
  pub values_pushed : (rows : List (List ℕ × T)) (e : List ℕ × T) → values_of (rows ++ e ∷ []) ≡ values_of rows ++ e.1 ∷ []
  values_pushed [] e = refl
  values_pushed (x ∷ rows) e = ap (λ vs. x.1 ∷ vs) (values_pushed rows e)

  pub all_above : (n : ℕ) (rows : List (List ℕ × T)) → AllByRecursion (λ e. code_cmp (n ∷ []) e.0 ≡ Greater) rows → AllByRecursion (λ e. code_cmp ((n + 1) ∷ []) e.0 ≡ Greater) rows
  all_above n [] a = tt
  all_above n (e ∷ rows) a = (code_above n e.0 a.0, all_above n rows a.1)

  pub one_more : (P : List ℕ × T → Type 0) (rows : List (List ℕ × T)) (e : List ℕ × T) → AllByRecursion P rows → P e → AllByRecursion P (rows ++ e ∷ [])
  one_more P [] e a h = (h, tt)
  one_more P (x ∷ rows) e a h = (a.0, one_more P rows e a.1 h)

  all_below : (c : List ℕ) (rows : List (List ℕ × T)) → AllByRecursion (λ e. code_cmp c e.0 ≡ Greater) rows → below c rows ≡ rows
  all_below c [] a = refl
  all_below c (e ∷ rows) a = rw (ap is_gt a.0) (ap (λ es. e ∷ es) (all_below c rows a.1))

  none_above : (c : List ℕ) (rows : List (List ℕ × T)) → AllByRecursion (λ e. code_cmp c e.0 ≡ Greater) rows → above c rows ≡ []
  none_above c [] a = refl
  none_above c (e ∷ rows) a = rw (ap is_lt a.0) (none_above c rows a.1)

  -- a value at a code above all goes last
  pub put_last : (c : List ℕ) (v : T) (rows : List (List ℕ × T)) → AllByRecursion (λ e. code_cmp c e.0 ≡ Greater) rows → put c v rows ≡ rows ++ (c, v) ∷ []
  put_last c v rows a = ap (λ es. es ++ (c, v) ∷ above c rows) (all_below c rows a) ∙ ap (λ es. rows ++ (c, v) ∷ es) (none_above c rows a)

  -- a value under a number above all goes last
  pub pushed_values : (n : ℕ) (v : T) (rows : List (List ℕ × T)) → AreBelow n rows → values_of (put (n ∷ []) v rows) ≡ values_of rows ++ v ∷ []
  pushed_values n v rows a = ap values_of (put_last (n ∷ []) v rows a) ∙ values_pushed rows (n ∷ [], v)

  -- and then the next number is above all
  pub pushed_below : (n : ℕ) (v : T) (rows : List (List ℕ × T)) → AreBelow n rows → AreBelow (n + 1) (put (n ∷ []) v rows)
  pushed_below n v rows a =
      subst (λ es. AreBelow (n + 1) es) (sym (put_last (n ∷ []) v rows a))
      (one_more (λ e. code_cmp ((n + 1) ∷ []) e.0 ≡ Greater) rows (n ∷ [], v) (all_above n rows a) (last_above n))
