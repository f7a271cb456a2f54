-- A code looked up by halves.
use Rattle.std.proofs.Common.{◌≡◌, ℕ, zero, suc, ◌+◌, ◌≤◌, List, [], ◌∷◌, ◌++◌, Bool, true, false, cond, take, drop, option_map, Option, Some, None, refl, sym, ap, subst, ◌∙◌, arith, add-one}
use Rattle.std.specs.declared.cmp.Ordering.{Ordering}
use Rattle.std.specs.declared.cmp.Ordering.TheVariants.{Less, Equal, Greater}
use Rattle.std.specs.Ordering.{is_eq, ordering_reverse}
use Rattle.std.specs.Cmp.Lexicographic.{nat_list_cmp_total}
use Rattle.std.specs.List.{slice_get}
use Rattle.std.proofs.lemmas.List.{take-append-drop}
use Rattle.adr_shared.specs.Map.{code_cmp, lookup, IsAscending}
use Rattle.adr_shared.proofs.Parts.{AreParts, Compares, parted}

turned : (a b : List ℕ) (o : Ordering) → code_cmp a b ≡ o → code_cmp b a ≡ ordering_reverse o
turned a b o h = nat_list_cmp_total.antisymm b a ∙ ap ordering_reverse h

-- how two names compare
pub compared : (a b x y : List ℕ) (r o : Ordering) → a ≡ x → b ≡ y → r ≡ code_cmp a b → r ≡ o → code_cmp x y ≡ o
compared a b x y r o p q h k = ap (λ z. code_cmp x z) (sym q) ∙ ap (λ z. code_cmp z b) (sym p) ∙ sym h ∙ k

module _ {V : Type 0} where
  -- what compares otherwise is not found
  not_found : (c : List ℕ) (o : Ordering) (es : List (List ℕ × V)) → is_eq o ≡ false → Compares c o es → lookup c es ≡ None
  not_found c o [] h a = refl
  not_found c o (e ∷ es) h a = rw (ap is_eq a.0 ∙ h) (not_found c o es h a.1)

  found_in : (c : List ℕ) (l r : List (List ℕ × V)) → lookup c l ≡ None → lookup c (l ++ r) ≡ lookup c r
  found_in c [] r h = refl
  found_in c (e ∷ l) r h = by (is_eq (code_cmp c e.0)) h (found_in c l r)
    where
      by : (b : Bool) → cond b (Some e.1) (lookup c l) ≡ None → (lookup c l ≡ None → lookup c (l ++ r) ≡ lookup c r) → cond b (Some e.1) (lookup c (l ++ r)) ≡ lookup c r
      by true h rest = absurd (cc)
      by false h rest = rest h

  -- an entry with those before it and those after it
  record IsAt (es : List (List ℕ × V)) (m : ℕ) (e : List ℕ × V) : Type 0 where
    pub later : List (List ℕ × V)
    pub from : drop m es ≡ e ∷ later
    pub until : take (suc m) es ≡ take m es ++ e ∷ []
    pub whole : es ≡ take m es ++ e ∷ later

  at_place : (es : List (List ℕ × V)) (m : ℕ) (e : List ℕ × V) → slice_get es m ≡ Some e → IsAt es m e
  at_place [] m e h = absurd (cc)
  at_place (x ∷ es) zero e h = let same : x ≡ e = cc in record { later = es; from = ap (λ y. y ∷ es) same; until = ap (λ y. y ∷ []) same; whole = ap (λ y. y ∷ es) same }
  at_place (x ∷ es) (suc m) e h =
      let rest = at_place es m e h in
      record { later = rest.later; from = rest.from; until = ap (λ l. x ∷ l) rest.until; whole = ap (λ l. x ∷ l) rest.whole }

  less_after : (c k : List ℕ) (es : List (List ℕ × V)) → code_cmp c k ≡ Less → Compares k Less es → Compares c Less es
  less_after c k [] h a = tt
  less_after c k (e ∷ es) h a = (nat_list_cmp_total.trans c k e.0 h a.0, less_after c k es h a.1)

  greater_before : (c k : List ℕ) (es : List (List ℕ × V)) → code_cmp c k ≡ Greater → Compares k Greater es → Compares c Greater es
  greater_before c k [] h a = tt
  greater_before c k (e ∷ es) h a = (turned e.0 c Less (nat_list_cmp_total.trans e.0 k c (turned k e.0 Greater a.0) (turned c k Greater h)), greater_before c k es h a.1)

  equal_before : (c k : List ℕ) (es : List (List ℕ × V)) → code_cmp c k ≡ Equal → Compares k Greater es → Compares c Greater es
  equal_before c k [] h a = tt
  equal_before c k (e ∷ es) h a = (nat_list_cmp_total.congr c k e.0 h ∙ a.0, equal_before c k es h a.1)

  module _ (c : List ℕ) (es : List (List ℕ × V)) (m : ℕ) (e : List ℕ × V) (up : IsAscending es) (at : slice_get es m ≡ Some e) where
    here : IsAt es m e
    here = at_place es m e at

    parts : AreParts (take m es) e.0 here.later
    parts = parted (take m es) e here.later (subst IsAscending here.whole up)

    after_it : code_cmp c e.0 ≡ Less → lookup c (drop m es) ≡ None
    after_it h = ap (lookup c) here.from ∙ not_found c Less (e ∷ here.later) refl (h, less_after c e.0 here.later h parts.after)

    before_it : code_cmp c e.0 ≡ Greater → lookup c (take (suc m) es) ≡ None
    before_it h =
        ap (lookup c) here.until
        ∙ found_in c (take m es) (e ∷ []) (not_found c Greater (take m es) refl (greater_before c e.0 (take m es) h parts.before))
        ∙ not_found c Greater (e ∷ []) refl (h, tt)

    it : code_cmp c e.0 ≡ Equal → lookup c es ≡ Some e.1
    it h =
        ap (lookup c) here.whole
        ∙ found_in c (take m es) (e ∷ here.later) (not_found c Greater (take m es) refl (equal_before c e.0 (take m es) h parts.before))
        ∙ ap (λ o. cond (is_eq o) (Some e.1) (lookup c here.later)) h

  -- the key at the middle: what lies after it, and before it, and what is there
  module _ (c : List ℕ) (es : List (List ℕ × V)) (m : ℕ) (k : List ℕ) (up : IsAscending es) (at : Some k ≡ option_map (λ (e : List ℕ × V). e.0) (slice_get es m)) where
    entry : (o : Option (List ℕ × V)) → slice_get es m ≡ o → Some k ≡ option_map (λ (e : List ℕ × V). e.0) o → (e : List ℕ × V) × (slice_get es m ≡ Some e) × (e.0 ≡ k)
    entry None is h = absurd (cc)
    entry (Some e) is h = (e, is, cc)

    pub none_after : code_cmp c k ≡ Less → lookup c (drop m es) ≡ None
    none_after h = let (e, is, own) = entry (slice_get es m) refl at in after_it c es m e up is (ap (code_cmp c) own ∙ h)

    pub none_before : code_cmp c k ≡ Greater → lookup c (take (m + 1) es) ≡ None
    none_before h = let (e, is, own) = entry (slice_get es m) refl at in ap (λ n. lookup c (take n es)) (add-one m) ∙ before_it c es m e up is (ap (code_cmp c) own ∙ h)

    pub found_here : code_cmp c k ≡ Equal → lookup c es ≡ option_map (λ (e : List ℕ × V). e.1) (slice_get es m)
    found_here h = let (e, is, own) = entry (slice_get es m) refl at in it c es m e up is (ap (code_cmp c) own ∙ h) ∙ ap (option_map (λ (e : List ℕ × V). e.1)) (sym is)

  -- nothing is left to look at
  pub none_left : (c : List ℕ) (es : List (List ℕ × V)) (low high : ℕ) → low ≤ high → high ≤ low → lookup c (take low es) ≡ None → lookup c (drop high es) ≡ None → lookup c es ≡ None
  none_left c es low high le ge before after =
      let same : high ≡ low = omega arith in
      ap (lookup c) (sym (take-append-drop low es)) ∙ found_in c (take low es) (drop low es) before ∙ ap (λ n. lookup c (drop n es)) (sym same) ∙ after
