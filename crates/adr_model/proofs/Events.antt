-- What the four ways to change a list of written events keep: none, one more, one written again, one taken out.
use Rattle.std.proofs.Common.{◌≡◌, ℕ, ◌+◌, ◌≤◌, Bool, true, false, not, cond, if◌then◌else◌, eqb, List, [], ◌∷◌, ◌++◌, map, refl, ap, ap₂, sym, subst, ◌∙◌, filter, append-nil, ◌⊎◌, inl, inr, arith, eq-eqb, eqb-true}
use Rattle.std.specs.List.{IsDistinct}
use Rattle.std.specs.Str.{bytes_eq}
use Rattle.std.proofs.lemmas.List.Elements.{filter-append}
use Rattle.std.proofs.lemmas.Bool.{both_ways, false_from_ne_true, not_from_true}
use Rattle.adr_model.specs.declared.written.Written.{Written}
use Rattle.adr_model.specs.Lists.{In}
use Rattle.adr_model.proofs.Keyed.{event_id, distinct_filter, distinct_push, map-push, map-filter, put, put_keys, In-from_put}
use Rattle.adr_model.proofs.Lists.{each_from_In, In_from_each, has, has_from_In, In_from_has, In-map, In-from_map, In-append_left, In-append_cases, In-filter, In-from_filter, filter-same, filter_all, filter_drops_all, same_bytes}

abbrev pub keys : List Written → List (List ℕ)
keys es = map (λ w. w.event.id) es

abbrev pub numbers : List Written → List ℕ
numbers es = map (λ w. w.written) es

-- the list fs after the edit with number n + 1 of the list es
pub record Kept (n : ℕ) (es fs : List Written) : Type 0 where
  pub ids : IsDistinct bytes_eq (keys fs)
  pub writes : IsDistinct eqb (numbers fs)
  pub below : (w : Written) → In w fs → w.written ≤ n + 1
  pub order : keys fs ≡ filter (has (keys fs)) (keys es) ++ filter (λ id. not (has (keys es) id)) (keys fs)
  pub same_write : (w v : Written) → In w es → In v fs → w.written ≡ v.written → w ≡ v

-- distinct numbers: one number, one write
pub one_write : (es : List Written) → IsDistinct eqb (numbers es) → (w v : Written) → In w es → In v es → w.written ≡ v.written → w ≡ v
unfolding IsDistinct
one_write [] d w v m n e = absurd m
one_write (y ∷ ys) d w v (inl a) (inl b) e = sym a ∙ b
one_write (y ∷ ys) d w v (inl a) (inr n) e =
    absurd (both_ways (eqb y.written v.written)
    (In_from_each (λ k. eqb y.written k ≡ false) (numbers ys) d.0 v.written (In-map (λ (z : Written). z.written) ys v n))
    (eq-eqb y.written v.written (ap (λ (z : Written). z.written) a ∙ e)))
one_write (y ∷ ys) d w v (inr m) (inl b) e =
    absurd (both_ways (eqb y.written w.written)
    (In_from_each (λ k. eqb y.written k ≡ false) (numbers ys) d.0 w.written (In-map (λ (z : Written). z.written) ys w m))
    (eq-eqb y.written w.written (ap (λ (z : Written). z.written) b ∙ sym e)))
one_write (y ∷ ys) d w v (inr m) (inr n) e = one_write ys d.1 w v m n e

-- the order where the ids are the same
same_order : (old new : List (List ℕ)) → new ≡ old → new ≡ filter (has new) old ++ filter (λ id. not (has old id)) new
same_order old new e =
    subst (λ (l : List (List ℕ)). l ≡ filter (has l) old ++ filter (λ id. not (has old id)) l) (sym e)
    (sym (ap₂ (λ (a b : List (List ℕ)). a ++ b)
    (filter_all (has old) old (λ x m. has_from_In old x m))
    (filter_drops_all (λ id. not (has old id)) old (λ x m. not_from_true (has old x) (has_from_In old x m)))
    ∙ append-nil old))

module _ (n : ℕ) (es : List Written) (d : IsDistinct bytes_eq (keys es)) (w : IsDistinct eqb (numbers es)) (below : (v : Written) → In v es → v.written ≤ n) where
  pub unchanged : Kept n es es
  unchanged = record {
    ids = d;
    writes = w;
    below = λ v m. let h : v.written ≤ n = below v m in omega arith;
    order = same_order (keys es) (keys es) refl;
    same_write = one_write es w;
  }

  -- ---- one more

  module _ (x : Written) (number : x.written ≡ n + 1) where
    later : (v : Written) → In v es → v.written ≡ x.written → ⊥
    later v m e = let h : v.written ≤ n = below v m in omega arith

    pub one_more : has (keys es) x.event.id ≡ false → Kept n es (es ++ x ∷ [])
    one_more absent = record {
      ids = distinct_push bytes_eq (λ (v : Written). v.event.id) es x d
          (λ y m. false_from_ne_true (bytes_eq y.event.id x.event.id)
          (λ t. both_ways (has (keys es) x.event.id) absent
          (has_from_In (keys es) x.event.id (subst (λ k. In k (keys es)) (same_bytes y.event.id x.event.id t) (In-map (λ (v : Written). v.event.id) es y m)))));
      writes = distinct_push eqb (λ (v : Written). v.written) es x w
          (λ y m. false_from_ne_true (eqb y.written x.written) (λ t. later y m (eqb-true y.written x.written t)));
      below = λ v m. at_most v (In-append_cases v es (x ∷ []) m);
      order = rw (map-push (λ (v : Written). v.event.id) es x) ordered;
      same_write = λ v u m k e. joined v u m (In-append_cases u es (x ∷ []) k) e;
    }
      where
        at_most : (v : Written) → In v es ⊎ In v (x ∷ []) → v.written ≤ n + 1
        at_most v (inl m) = let h : v.written ≤ n = below v m in omega arith
        at_most v (inr (inl e)) = let h : x.written ≡ v.written = ap (λ (z : Written). z.written) e in omega arith
        at_most v (inr (inr m)) = absurd m

        joined : (v u : Written) → In v es → In u es ⊎ In u (x ∷ []) → v.written ≡ u.written → v ≡ u
        joined v u m (inl k) e = one_write es w v u m k e
        joined v u m (inr (inl s)) e = absurd (later v m (e ∙ ap (λ (z : Written). z.written) (sym s)))
        joined v u m (inr (inr k)) e = absurd k

        ordered : keys es ++ x.event.id ∷ [] ≡ filter (has (keys es ++ x.event.id ∷ [])) (keys es) ++ filter (λ id. not (has (keys es) id)) (keys es ++ x.event.id ∷ [])
        ordered = sym (ap₂ (λ (a b : List (List ℕ)). a ++ b)
            (filter_all (has (keys es ++ x.event.id ∷ [])) (keys es) (λ k m. has_from_In (keys es ++ x.event.id ∷ []) k (In-append_left k (keys es) (x.event.id ∷ []) m)))
            (filter-append (λ id. not (has (keys es) id)) (keys es) (x.event.id ∷ [])
            ∙ ap₂ (λ (a b : List (List ℕ)). a ++ b)
            (filter_drops_all (λ id. not (has (keys es) id)) (keys es) (λ k m. not_from_true (has (keys es) k) (has_from_In (keys es) k m)))
            (ap (λ b. cond (not b) (x.event.id ∷ []) []) absent)))

    -- ---- one written again

    -- where no element has the id, nothing changes
    put_absent : (vs : List Written) → ((v : Written) → In v vs → bytes_eq x.event.id v.event.id ≡ false) → put event_id x vs ≡ vs
    unfolding put
    put_absent [] h = refl
    put_absent (v ∷ vs) h = rw (h v (inl refl)) (ap (λ l. v ∷ l) (put_absent vs (λ u m. h u (inr m))))

    put_numbers : (vs : List Written) → IsDistinct bytes_eq (keys vs) → IsDistinct eqb (numbers vs) → ((v : Written) → In v vs → v.written ≡ x.written → ⊥)
        → IsDistinct eqb (numbers (put event_id x vs))
    unfolding put IsDistinct
    put_numbers [] k l h = tt
    put_numbers (v ∷ vs) k l h = by (bytes_eq x.event.id v.event.id) refl (put_numbers vs k.1 l.1 (λ u m. h u (inr m)))
      where
        others : bytes_eq x.event.id v.event.id ≡ true → (u : Written) → In u vs → bytes_eq x.event.id u.event.id ≡ false
        others t u m = subst (λ i. bytes_eq i u.event.id ≡ false) (sym (same_bytes x.event.id v.event.id t))
            (In_from_each (λ i. bytes_eq v.event.id i ≡ false) (keys vs) k.0 u.event.id (In-map (λ (z : Written). z.event.id) vs u m))

        apart : (y : ℕ) (u : Written) → u.written ≡ y → (x ≡ u) ⊎ In u vs → eqb v.written y ≡ false
        apart y u e (inl s) = false_from_ne_true (eqb v.written y) (λ t. h v (inl refl) (eqb-true v.written y t ∙ sym e ∙ ap (λ (z : Written). z.written) (sym s)))
        apart y u e (inr m) = subst (λ i. eqb v.written i ≡ false) e (In_from_each (λ i. eqb v.written i ≡ false) (numbers vs) l.0 u.written (In-map (λ (z : Written). z.written) vs u m))

        by : (b : Bool) → bytes_eq x.event.id v.event.id ≡ b → IsDistinct eqb (numbers (put event_id x vs)) → IsDistinct eqb ((if b then x else v).written ∷ numbers (put event_id x vs))
        by true t rest = (
          each_from_In (λ i. eqb x.written i ≡ false) (numbers (put event_id x vs))
              (λ y m. let r = In-from_map (λ (z : Written). z.written) (put event_id x vs) y m in
              false_from_ne_true (eqb x.written y)
              (λ q. h r.0 (inr (subst (λ us. In r.0 us) (put_absent vs (others t)) r.1)) (r.2 ∙ sym (eqb-true x.written y q)))),
          rest,
        )
        by false t rest = (
          each_from_In (λ i. eqb v.written i ≡ false) (numbers (put event_id x vs))
              (λ y m. let r = In-from_map (λ (z : Written). z.written) (put event_id x vs) y m in apart y r.0 r.2 (In-from_put event_id x vs r.0 r.1)),
          rest,
        )

    pub one_again : Kept n es (map (λ v. if bytes_eq x.event.id v.event.id then x else v) es)
    unfolding put
    one_again = record {
      ids = subst (λ l. IsDistinct bytes_eq l) (sym (put_keys event_id x es)) d;
      writes = put_numbers es d w later;
      below = λ v m. at_most v (In-from_put event_id x es v m);
      order = same_order (keys es) (keys (put event_id x es)) (put_keys event_id x es);
      same_write = λ v u m k e. joined v u m (In-from_put event_id x es u k) e;
    }
      where
        at_most : (v : Written) → (x ≡ v) ⊎ In v es → v.written ≤ n + 1
        at_most v (inr m) = let h : v.written ≤ n = below v m in omega arith
        at_most v (inl e) = let h : x.written ≡ v.written = ap (λ (z : Written). z.written) e in omega arith

        joined : (v u : Written) → In v es → (x ≡ u) ⊎ In u es → v.written ≡ u.written → v ≡ u
        joined v u m (inr k) e = one_write es w v u m k e
        joined v u m (inl s) e = absurd (later v m (e ∙ ap (λ (z : Written). z.written) (sym s)))

  -- ---- one taken out

  pub one_less : (id : List ℕ) → Kept n es (filter (λ v. not (bytes_eq id v.event.id)) es)
  one_less id = record {
    ids = distinct_filter bytes_eq (λ (v : Written). v.event.id) (λ v. not (bytes_eq id v.event.id)) es d;
    writes = distinct_filter eqb (λ (v : Written). v.written) (λ v. not (bytes_eq id v.event.id)) es w;
    below = λ v m. let h : v.written ≤ n = below v (In-from_filter (λ (u : Written). not (bytes_eq id u.event.id)) es v m).0 in omega arith;
    order = rw (map-filter (λ (v : Written). v.event.id) (λ k. not (bytes_eq id k)) es) (ordered (keys es));
    same_write = λ v u m k e. one_write es w v u m (In-from_filter (λ (z : Written). not (bytes_eq id z.event.id)) es u k).0 e;
  }
    where
      still : (ids : List (List ℕ)) (k : List ℕ) → In k ids → (b : Bool) → not (bytes_eq id k) ≡ b → has (filter (λ i. not (bytes_eq id i)) ids) k ≡ b
      still ids k m true t = has_from_In (filter (λ i. not (bytes_eq id i)) ids) k (In-filter (λ i. not (bytes_eq id i)) ids k m t)
      still ids k m false t =
          false_from_ne_true (has (filter (λ i. not (bytes_eq id i)) ids) k)
          (λ h. both_ways (not (bytes_eq id k)) t
          (In-from_filter (λ i. not (bytes_eq id i)) ids k (In_from_has (filter (λ i. not (bytes_eq id i)) ids) k h)).1)

      ordered : (ids : List (List ℕ)) → filter (λ k. not (bytes_eq id k)) ids
          ≡ filter (has (filter (λ k. not (bytes_eq id k)) ids)) ids ++ filter (λ k. not (has ids k)) (filter (λ k. not (bytes_eq id k)) ids)
      ordered ids =
          sym (ap₂ (λ (a b : List (List ℕ)). a ++ b)
          (filter-same (has (filter (λ k. not (bytes_eq id k)) ids)) (λ k. not (bytes_eq id k)) ids (λ k m. still ids k m (not (bytes_eq id k)) refl))
          (filter_drops_all (λ k. not (has ids k)) (filter (λ k. not (bytes_eq id k)) ids)
          (λ k m. not_from_true (has ids k) (has_from_In ids k (In-from_filter (λ i. not (bytes_eq id i)) ids k m).0)))
          ∙ append-nil (filter (λ k. not (bytes_eq id k)) ids))
