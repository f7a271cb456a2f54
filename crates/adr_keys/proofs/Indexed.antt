-- The sets against the rows, as rows come, change and go.
use Rattle.std.proofs.Common.{◌≡◌, ℕ, ◌<◌, ◌+◌, ◌&&◌, ◌||◌, ◌++◌, ◌∷◌, [], not, true, false, cond, eqb, ltb, Bool, List, length, get_or, set, remove, refl, ap, sym, ◌∙◌, arith, eq-eqb, ne_eqb, eqb-true, ltb-true, ltb-false}
use Rattle.std.proofs.lemmas.Bool.{eqb-false}
use Rattle.std.proofs.lemmas.List.{get_or_append_left, get_or_push, get_or_past, get_or-set_same, get_or-set_other, length_push}
use Rattle.std.proofs.lemmas.List.Edits.{get_or-remove_below, get_or-remove_above}
use Rattle.adr_keys.specs.declared.key.Key.{Key}
use Rattle.adr_keys.specs.Places.{before_closing}
use Rattle.adr_keys.specs.Rows.{offers_key}
use Rattle.adr_keys.proofs.Words.{three}

and_none : (b : Bool) → (b && false) ≡ false
and_none true = refl
and_none false = refl

-- what the sets say is what the rows offer
abbrev pub Indexes : (Key → ℕ → Bool) → List (List Key) → Type 0
Indexes h rows = (key : Key) (place : ℕ) → h key place ≡ offers_key (get_or rows place []) key

module _ (h n : Key → ℕ → Bool) (rows : List (List Key)) (row : List Key) (place : ℕ) (i : Indexes h rows) where
  -- a row is added last
  pub indexed_more : place ≡ length rows → ((k : Key) (p : ℕ) → n k p ≡ ((offers_key row k && eqb p place) || h k p)) → Indexes n (rows ++ row ∷ [])
  indexed_more e f k p = f k p ∙ three p place
      (λ l. ap (λ b. (offers_key row k && b) || h k p) (ne_eqb p place (λ q. omega arith)) ∙ ap (λ b. b || h k p) (and_none (offers_key row k)) ∙ i k p
      ∙ ap (λ xs. offers_key xs k) (sym (get_or_append_left rows (row ∷ []) [] p (omega arith))))
      (λ q. ap (λ b. (offers_key row k && b) || h k p) (eq-eqb p place q) ∙ ap (λ b. (offers_key row k && true) || b) (i k p ∙ ap (λ xs. offers_key xs k) (get_or_past rows p [] (omega arith)))
      ∙ and_or (offers_key row k) ∙ ap (λ xs. offers_key xs k) (sym (get_or_push rows row [] p (omega arith))))
      (λ l. ap (λ b. (offers_key row k && b) || h k p) (ne_eqb p place (λ q. omega arith)) ∙ ap (λ b. b || h k p) (and_none (offers_key row k)) ∙ i k p
      ∙ ap (λ xs. offers_key xs k) (get_or_past rows p [] (omega arith)) ∙ ap (λ xs. offers_key xs k) (sym (get_or_past (rows ++ row ∷ []) p [] (omega (arith, length_push rows row)))))
    where
      and_or : (b : Bool) → ((b && true) || false) ≡ b
      and_or true = refl
      and_or false = refl

  -- a row is put in the place of another
  pub indexed_put : place < length rows → ((k : Key) (p : ℕ) → n k p ≡ ((offers_key row k && eqb p place) || (not (offers_key (get_or rows place []) k && eqb p place) && h k p))) → Indexes n (set rows place row)
  indexed_put l f k p = f k p ∙ by (eqb p place) refl
    where
      put : (a b : Bool) → ((a && true) || (not (b && true) && b)) ≡ a
      put true b = refl
      put false true = refl
      put false false = refl

      by : (b : Bool) → eqb p place ≡ b → ((offers_key row k && b) || (not (offers_key (get_or rows place []) k && b) && h k p)) ≡ offers_key (get_or (set rows place row) p []) k
      by true e =
          let q : p ≡ place = eqb-true p place e in
          ap (λ b. (offers_key row k && true) || (not (offers_key (get_or rows place []) k && true) && b)) (i k p ∙ ap (λ j. offers_key (get_or rows j []) k) q)
          ∙ put (offers_key row k) (offers_key (get_or rows place []) k)
          ∙ ap (λ xs. offers_key xs k) (sym (ap (λ j. get_or (set rows place row) j []) q ∙ get_or-set_same rows place row [] l))
      by false e =
          ap (λ b. b || (not (offers_key (get_or rows place []) k && false) && h k p)) (and_none (offers_key row k))
          ∙ ap (λ b. not b && h k p) (and_none (offers_key (get_or rows place []) k))
          ∙ i k p ∙ ap (λ xs. offers_key xs k) (sym (get_or-set_other rows place p row [] (eqb-false p place e)))

  -- a row is taken out, and the gap closed
  pub indexed_less : place < length rows → ((k : Key) (p : ℕ) → n k p ≡ (not (offers_key row k && eqb (before_closing place p) place) && h k (before_closing place p))) → Indexes n (remove rows place)
  indexed_less l f k p =
      f k p ∙ ap (λ b. not (offers_key row k && b) && h k (before_closing place p)) (ne_eqb (before_closing place p) place apart)
      ∙ ap (λ b. not b && h k (before_closing place p)) (and_none (offers_key row k)) ∙ i k (before_closing place p)
      ∙ ap (λ xs. offers_key xs k) (by (ltb p place) refl)
    where
      apart : before_closing place p ≡ place → ⊥
      apart q = by (ltb p place) refl q
        where
          by : (b : Bool) → ltb p place ≡ b → cond b p (p + 1) ≡ place → ⊥
          by true e q = let a = ltb-true p place e in omega arith
          by false e q = let a = ltb-false p place e in omega arith

      by : (b : Bool) → ltb p place ≡ b → get_or rows (cond b p (p + 1)) [] ≡ get_or (remove rows place) p []
      by true e = sym (get_or-remove_below rows place [] p (ltb-true p place e) l)
      by false e = sym (get_or-remove_above rows place [] p (ltb-false p place e) l)
