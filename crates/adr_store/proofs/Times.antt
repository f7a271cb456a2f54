-- How often an id was added, after one is added or taken out.
use Rattle.std.proofs.Common.{◌≡◌, ℕ, ◌+◌, ◌==◌, Bool, true, false, cond, List, [], ◌∷◌, Some, None, refl, ap, sym, ◌∙◌, arith, eqb-true, eq-eqb}
use Rattle.std.proofs.lemmas.Slice.Eq.{bytes_eq-Decides}
use Rattle.std.specs.Option.{unwrap_or}
use Rattle.std.specs.Str.{bytes_eq}
use Rattle.adr_shared.specs.Map.{lookup, put, without}
use Rattle.adr_shared.proofs.LookUps.{put_is_found, taken_is_gone}
use Rattle.adr_object.specs.declared.event.Event.{Event}
use Rattle.adr_store.specs.Numbers.{kept_for, one_if, times}

pub same_test : (p q : Bool) → (p ≡ true → q ≡ true) → (q ≡ true → p ≡ true) → p ≡ q
same_test true true h k = refl
same_test true false h k = sym (h refl)
same_test false true h k = k refl
same_test false false h k = refl

module _ (counts : List (List ℕ × ℕ)) (key : List ℕ) where
  pub added : (n : ℕ) → n ≡ times counts key + 1 → (id : List ℕ) → times (put key n counts) id ≡ times counts id + one_if (bytes_eq id key)
  added n h id = ap (λ o. unwrap_or o 0) (put_is_found counts key n id) ∙ by (bytes_eq id key) refl
    where
      by : (b : Bool) → bytes_eq id key ≡ b → unwrap_or (cond b (Some n) (lookup id counts)) 0 ≡ times counts id + one_if b
      by true e = h ∙ ap (λ i. times counts i + 1) (sym ((bytes_eq-Decides id key).0 e))
      by false e = omega arith

  pub taken : (n : ℕ) → n + 1 ≡ times counts key → (id : List ℕ) → times (put key n counts) id + one_if (bytes_eq id key) ≡ times counts id
  taken n h id = ap (λ o. unwrap_or o 0 + one_if (bytes_eq id key)) (put_is_found counts key n id) ∙ by (bytes_eq id key) refl
    where
      by : (b : Bool) → bytes_eq id key ≡ b → unwrap_or (cond b (Some n) (lookup id counts)) 0 + one_if b ≡ times counts id
      by true e = h ∙ ap (λ i. times counts i) (sym ((bytes_eq-Decides id key).0 e))
      by false e = omega arith

  pub gone : 1 ≡ times counts key → (id : List ℕ) → times (without key counts) id + one_if (bytes_eq id key) ≡ times counts id
  gone h id = ap (λ o. unwrap_or o 0 + one_if (bytes_eq id key)) (taken_is_gone counts key id) ∙ by (bytes_eq id key) refl
    where
      by : (b : Bool) → bytes_eq id key ≡ b → unwrap_or (cond b None (lookup id counts)) 0 + one_if b ≡ times counts id
      by true e = h ∙ ap (λ i. times counts i) (sym ((bytes_eq-Decides id key).0 e))
      by false e = omega arith

-- codes of numbers are compared as the numbers
same_number : (n w : ℕ) → bytes_eq (n ∷ []) (w ∷ []) ≡ (w == n)
same_number n w = same_test (bytes_eq (n ∷ []) (w ∷ [])) (w == n)
    (λ h. eq-eqb w n (sym (head ((bytes_eq-Decides (n ∷ []) (w ∷ [])).0 h))))
    (λ h. (bytes_eq-Decides (n ∷ []) (w ∷ [])).1 (ap (λ k. k ∷ []) (sym (eqb-true w n h))))
  where
    head : n ∷ [] ≡ w ∷ [] → n ≡ w
    head h = cc

module _ (writes : List (List ℕ × Event)) (w : ℕ) where
  pub write_kept : (event : Event) (n : ℕ) → kept_for (put (w ∷ []) event writes) n ≡ cond (w == n) (Some event) (kept_for writes n)
  write_kept event n = put_is_found writes (w ∷ []) event (n ∷ []) ∙ ap (λ b. cond b (Some event) (kept_for writes n)) (same_number n w)

  pub write_gone : (n : ℕ) → kept_for (without (w ∷ []) writes) n ≡ cond (w == n) None (kept_for writes n)
  write_gone n = taken_is_gone writes (w ∷ []) (n ∷ []) ∙ ap (λ b. cond b None (kept_for writes n)) (same_number n w)
