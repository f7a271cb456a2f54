-- Target lists, type by type and value by value.
use Rattle.std.proofs.Common.{◌≡◌, ℕ, ◌<◌, ◌+◌, ◌&&◌, ◌||◌, ◌∷◌, [], true, false, cond, Bool, List, length, get_or, take, filter, zero, suc, refl, ap, sym, ◌∙◌, arith}
use Rattle.std.proofs.lemmas.List.{take_more}
use Rattle.std.proofs.lemmas.List.Folds.{list_any-append, list_all-append}
use Rattle.std.specs.List.{list_any, list_all, range_with_len}

pub or_false : (b : Bool) → (b || false) ≡ b
or_false true = refl
or_false false = refl

pub and_true : (b : Bool) → (b && true) ≡ b
and_true true = refl
and_true false = refl

pub and_none : (b : Bool) → (b && false) ≡ false
and_none true = refl
and_none false = refl

pub and_more : (a b c : Bool) → ((a && b) && c) ≡ (a && (b && c))
and_more true b c = refl
and_more false b c = refl

pub or_more : (a b c : Bool) → ((a || b) || c) ≡ (a || (b || c))
or_more true b c = refl
or_more false b c = refl

module _ {X : Type 0} (test : X → Bool) (xs : List X) (i : ℕ) (x : X) (h : i < length xs) (e : x ≡ get_or xs i x) where
  pub all_more : list_all test (take (i + 1) xs) ≡ (list_all test (take i xs) && test x)
  all_more = ap (list_all test) (take_more xs i x h) ∙ list_all-append test (take i xs) (get_or xs i x ∷ [])
      ∙ ap (λ y. list_all test (take i xs) && (test y && true)) (sym e) ∙ ap (λ b. list_all test (take i xs) && b) (and_true (test x))

  pub any_more : list_any test (take (i + 1) xs) ≡ (list_any test (take i xs) || test x)
  any_more = ap (list_any test) (take_more xs i x h) ∙ list_any-append test (take i xs) (get_or xs i x ∷ [])
      ∙ ap (λ y. list_any test (take i xs) || (test y || false)) (sym e) ∙ ap (λ b. list_any test (take i xs) || b) (or_false (test x))

-- two tests that agree on the first places list the same
pub filter-range : (f g : ℕ → Bool) (a n : ℕ) → ((p : ℕ) → p < a + n → f p ≡ g p) → filter f (range_with_len a n) ≡ filter g (range_with_len a n)
filter-range f g a zero h = refl
filter-range f g a (suc n) h =
    ap (λ b. cond b (a ∷ filter f (range_with_len (a + 1) n)) (filter f (range_with_len (a + 1) n))) (h a (omega arith))
    ∙ ap (λ xs. cond (g a) (a ∷ xs) xs) (filter-range f g (a + 1) n (λ p l. h p (omega arith)))
