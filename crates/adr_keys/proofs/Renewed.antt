-- Rows that are renewed, place by place.
use Rattle.std.proofs.Common.{◌≡◌, ℕ, ◌<◌, ◌≤◌, ◌+◌, [], ◌∷◌, cond, ltb, List, Option, None, length, get_or, set, zero, suc, refl, ap, sym, ◌∙◌, arith, lt-ltb, le-ltb}
use Rattle.std.proofs.lemmas.List.{get_or-set_same, get_or-set_other, same_lists, get_or_default}
use Rattle.std.specs.Option.{unwrap_or}
use Rattle.adr_keys.specs.declared.key.Key.{Key}
use Rattle.adr_keys.specs.Rows.{renewed}
use Rattle.adr_keys.proofs.Words.{three}

pub renewed-length : (fs : List (Option (List Key))) (rows : List (List Key)) → length fs ≡ length rows → length (renewed fs rows) ≡ length rows
renewed-length [] [] h = refl
renewed-length [] (row ∷ rows) h = absurd (omega arith)
renewed-length (f ∷ fs) [] h = absurd (omega arith)
renewed-length (f ∷ fs) (row ∷ rows) h = ap suc (renewed-length fs rows (omega arith))

-- the row at a place
pub renewed-at : (fs : List (Option (List Key))) (rows : List (List Key)) (p : ℕ) → length fs ≡ length rows → unwrap_or (get_or fs p None) (get_or rows p []) ≡ get_or (renewed fs rows) p []
renewed-at [] [] p h = refl
renewed-at [] (row ∷ rows) p h = absurd (omega arith)
renewed-at (f ∷ fs) [] p h = absurd (omega arith)
renewed-at (f ∷ fs) (row ∷ rows) zero h = refl
renewed-at (f ∷ fs) (row ∷ rows) (suc p) h = renewed-at fs rows p (omega arith)

module _ (fs : List (Option (List Key))) (old : List (List Key)) (h : length fs ≡ length old) where
  -- one place more
  pub renewed-next : (now : List (List Key)) (f : Option (List Key)) (p : ℕ) → length now ≡ length old → p < length old → f ≡ get_or fs p None
      → ((q : ℕ) → get_or now q [] ≡ cond (ltb q p) (get_or (renewed fs old) q []) (get_or old q []))
      → (q : ℕ) → get_or (set now p (unwrap_or f (get_or now p []))) q [] ≡ cond (ltb q (p + 1)) (get_or (renewed fs old) q []) (get_or old q [])
  renewed-next now f p k l is i q = three q p
      (λ a. get_or-set_other now p q (unwrap_or f (get_or now p [])) [] (λ z. omega arith) ∙ i q
      ∙ ap (λ b. cond b (get_or (renewed fs old) q []) (get_or old q [])) (lt-ltb q p a ∙ sym (lt-ltb q (p + 1) (omega arith))))
      (λ z. ap (λ j. get_or (set now p (unwrap_or f (get_or now p []))) j []) z
      ∙ get_or-set_same now p (unwrap_or f (get_or now p [])) [] (omega arith)
      ∙ ap (λ x. unwrap_or x (get_or now p [])) is
      ∙ ap (λ x. unwrap_or (get_or fs p None) x) (i p ∙ ap (λ b. cond b (get_or (renewed fs old) p []) (get_or old p [])) (le-ltb p p (omega arith)))
      ∙ renewed-at fs old p h ∙ ap (λ j. get_or (renewed fs old) j []) (sym z)
      ∙ ap (λ b. cond b (get_or (renewed fs old) q []) (get_or old q [])) (sym (lt-ltb q (p + 1) (omega arith))))
      (λ a. get_or-set_other now p q (unwrap_or f (get_or now p [])) [] (λ z. omega arith) ∙ i q
      ∙ ap (λ b. cond b (get_or (renewed fs old) q []) (get_or old q [])) (le-ltb q p (omega arith) ∙ sym (le-ltb q (p + 1) (omega arith))))

  pub renewed-all : (now : List (List Key)) (p : ℕ) → length now ≡ length old → length old ≤ p
      → ((q : ℕ) → get_or now q [] ≡ cond (ltb q p) (get_or (renewed fs old) q []) (get_or old q [])) → now ≡ renewed fs old
  renewed-all now p k l i = same_lists now (renewed fs old) (k ∙ sym (renewed-length fs old h))
      (λ q d m. get_or_default now q d [] m ∙ i q ∙ ap (λ b. cond b (get_or (renewed fs old) q []) (get_or old q [])) (lt-ltb q p (omega arith))
      ∙ get_or_default (renewed fs old) q [] d (omega (arith, renewed-length fs old h)))
