-- The first windows of a list, one by one.
use Rattle.std.proofs.Common.{◌≡◌, ℕ, zero, suc, ◌+◌, ◌&&◌, Bool, true, false, List, [], ◌∷◌, take, refl, ap, subst, ◌∙◌, arith}
use Rattle.adr_time.specs.Spans.{lasts}
use Rattle.adr_time.specs.declared.span.Span.{Span}
use Rattle.adr_timeline.specs.Windows.{are_apart, is_followed_by}

module _ (w : Span) (ws all left : List Span) (count : ℕ) (is : left ≡ w ∷ ws)
    (so_far : (m : ℕ) → are_apart (take (count + m) all) ≡ are_apart (take m left)) where
  with_next : (m : ℕ) → are_apart (take (count + suc m) all) ≡ (lasts w && is_followed_by w (take m ws) && are_apart (take m ws))
  with_next m = so_far (suc m) ∙ ap (λ (xs : List Span). are_apart (take (suc m) xs)) is

  -- one window more
  pub one_apart : lasts w ≡ true → are_apart (take (count + 1) all) ≡ true
  one_apart last = with_next 0 ∙ (rw last refl)

  -- and any that follow it
  pub more_apart : lasts w ≡ true → is_followed_by w ws ≡ true → (m : ℕ) → are_apart (take ((count + 1) + m) all) ≡ are_apart (take m ws)
  more_apart last follows m =
      subst (λ n. are_apart (take n all) ≡ are_apart (take m ws)) (let r : count + suc m ≡ (count + 1) + m = omega arith in r)
      (with_next m ∙ (rw (last, followed m) refl))
    where
      followed : (n : ℕ) → is_followed_by w (take n ws) ≡ true
      followed zero = refl
      followed (suc n) = by ws follows
        where
          by : (vs : List Span) → is_followed_by w vs ≡ true → is_followed_by w (take (suc n) vs) ≡ true
          by [] h = refl
          by (v ∷ vs) h = h

  -- none more where it does not last
  pub none_more : lasts w ≡ false → are_apart (take (count + 1) all) ≡ false
  none_more empty = with_next 0 ∙ (rw empty refl)

  -- nor where the next one starts too early
  pub none_behind : is_followed_by w ws ≡ false → are_apart (take ((count + 1) + 1) all) ≡ false
  none_behind early =
      subst (λ n. are_apart (take n all) ≡ false) (let r : count + suc 1 ≡ (count + 1) + 1 = omega arith in r)
      (with_next 1 ∙ (rw (first ws early) (neither (lasts w) (are_apart (take 1 ws)))))
    where
      first : (vs : List Span) → is_followed_by w vs ≡ false → is_followed_by w (take 1 vs) ≡ false
      first [] h = h
      first (v ∷ vs) h = h

      neither : (x y : Bool) → (x && false && y) ≡ false
      neither true y = refl
      neither false y = refl
