-- Indexes that are filled at once, type by type.
use Rattle.std.proofs.Common.{◌≡◌, ◌⊎◌, ◌↔◌, inl, inr, ℕ, ◌+◌, ◌||◌, Bool, true, false, cond, List, [], ◌∷◌, ◌++◌, length, filter, map, refl, ap, sym, subst, ◌∙◌, length-append, arith}
use Rattle.std.specs.List.{AllByRecursion, IsDistinct}
use Rattle.std.specs.List.Sorted.{IsPermutation}
use Rattle.std.proofs.lemmas.List.Elements.{filter-append}
use Rattle.std.proofs.lemmas.List.Sorted.{Contains-permutation, IsPermutation-sym}
use Rattle.adr_value.specs.Same.{same_type}
use Rattle.adr_value.specs.declared.payload.PayloadType.{PayloadType}
use Rattle.adr_model.specs.declared.entry.Entry.{Entry}
use Rattle.adr_model.specs.Lists.{In}
use Rattle.adr_model.proofs.Lists.{Contains-from_In, In-append_cases, In-append_left, In-append_right, In-from_Contains}
use Rattle.adr_index.specs.Index.{inserted, inserted_all, is_entry, AreDistinct, AreNew}
use Rattle.adr_lines.specs.declared.grouped.TypeEntries.{TypeEntries}
use Rattle.adr_lines.specs.Grouped.{entries_under, HaveOwnTypes}
use Rattle.adr_lines.specs.Right.{HaveSame}
use Rattle.adr_lines.proofs.Groups.{own_same}
use Rattle.adr_lines.specs.declared.indexes.Indexes.{Indexes}
use Rattle.adr_lines.specs.Indexes.{has_type, own_entries, under}
use Rattle.adr_lines.proofs.Distinct.{count_cons, distinct_inserted_all, one_more}
use Rattle.adr_lines.proofs.Turns.{own_all}

-- ---- entries that stand once

count_inserted : (w p : ℕ) (xs es : List Entry) → length (filter (is_entry w p) (inserted_all xs es)) ≡ length (filter (is_entry w p) xs) + length (filter (is_entry w p) es)
count_inserted w p [] es = omega arith
count_inserted w p (x ∷ xs) es =
    omega (arith, count_inserted w p xs (inserted x es), one_more w p x es, count_cons (is_entry w p) x xs)

-- entries that are new to each other
pub distinct_new : (xs : List Entry) → AreNew xs [] → AreDistinct xs
distinct_new xs new w p =
    let once = distinct_inserted_all xs [] new (λ v q. omega arith) w p in
    omega (arith, once, count_inserted w p xs [])

count_both : (w p : ℕ) (xs ys : List Entry) → length (filter (is_entry w p) (xs ++ ys)) ≡ length (filter (is_entry w p) xs) + length (filter (is_entry w p) ys)
count_both w p xs ys = ap length (filter-append (is_entry w p) xs ys) ∙ length-append (filter (is_entry w p) xs) (filter (is_entry w p) ys)

distinct_first : (xs ys : List Entry) → AreDistinct (xs ++ ys) → AreDistinct xs
distinct_first xs ys d w p = omega (arith, d w p, count_both w p xs ys)

distinct_later : (xs ys : List Entry) → AreDistinct (xs ++ ys) → AreDistinct ys
distinct_later xs ys d w p = omega (arith, d w p, count_both w p xs ys)

-- ---- the same entries in another order

pub same_permuted : (xs ys : List Entry) → IsPermutation xs ys → HaveSame ys xs
same_permuted xs ys moved e = (
  λ m. In-from_Contains xs e (Contains-permutation ys xs e (IsPermutation-sym xs ys moved) (Contains-from_In ys e m)),
  λ m. In-from_Contains ys e (Contains-permutation xs ys e moved (Contains-from_In xs e m)),
)

-- ---- one group after the other

-- what is under each type, with the groups that are left, is all; nothing is under their types, of which each stands once
pub record AreFilled (all rest : List TypeEntries) (indexes : Indexes) : Type 0 where
  pub held : (k : PayloadType) (e : Entry) → (In e (under indexes k) ⊎ In e (entries_under rest k)) ↔ In e (entries_under all k)
  pub free : (k : PayloadType) → has_type rest k ≡ true → under indexes k ≡ []
  pub types : HaveOwnTypes rest
  pub distinct : (k : PayloadType) → AreDistinct (entries_under rest k)

pub none_filled : (all : List TypeEntries) (indexes : Indexes) → ((k : PayloadType) → under indexes k ≡ []) → HaveOwnTypes all → ((k : PayloadType) → AreNew (entries_under all k) [])
    → AreFilled all all indexes
none_filled all indexes none types new = record {
  held = λ k e. (λ m. by k e m, λ m. inr m);
  free = λ k h. none k;
  types = types;
  distinct = λ k. distinct_new (entries_under all k) (new k);
}
  where
    by : (k : PayloadType) (e : Entry) → In e (under indexes k) ⊎ In e (entries_under all k) → In e (entries_under all k)
    by k e (inl m) = absurd (subst (λ (es : List Entry). In e es) (none k) m)
    by k e (inr m) = m

pub all_filled : (all rest : List TypeEntries) (indexes : Indexes) → rest ≡ [] → AreFilled all rest indexes → (k : PayloadType) → HaveSame (under indexes k) (entries_under all k)
all_filled all rest indexes none f k e = (λ m. (f.held k e).0 (inl m), λ m. by ((f.held k e).1 m))
  where
    by : In e (under indexes k) ⊎ In e (entries_under rest k) → In e (under indexes k)
    by (inl m) = m
    by (inr m) = absurd (subst (λ (gs : List TypeEntries). In e (entries_under gs k)) none m)

pub next_distinct : (all rest more : List TypeEntries) (g : TypeEntries) (indexes : Indexes) → rest ≡ g ∷ more → AreFilled all rest indexes → AreDistinct g.entries.items
next_distinct all rest more g indexes is f =
    subst AreDistinct (own_all g)
    (distinct_first (own_entries g g.payload_type) (entries_under more g.payload_type)
    (subst (λ (gs : List TypeEntries). AreDistinct (entries_under gs g.payload_type)) is (f.distinct g.payload_type)))

none_like : (a k : PayloadType) → same_type a k ≡ true → (gs : List TypeEntries)
    → AllByRecursion (λ b. same_type a b ≡ false) (map (λ (g : TypeEntries). g.payload_type) gs) → has_type gs k ≡ false
none_like a k s [] h = refl
none_like a k s (g ∷ gs) h = rw (own_same a k s g.payload_type h.0) (none_like a k s gs h.1)

module _ (all more : List TypeEntries) (g : TypeEntries) (before after : Indexes) (f : AreFilled all (g ∷ more) before)
    (own : (k : PayloadType) → same_type g.payload_type k ≡ true → HaveSame (under after k) g.entries.items)
    (others : (k : PayloadType) → same_type g.payload_type k ≡ false → under after k ≡ under before k) where
  later_held : (k : PayloadType) (e : Entry) → (In e (under after k) ⊎ In e (entries_under more k)) ↔ (In e (under before k) ⊎ In e (entries_under (g ∷ more) k))
  later_held k e = by (same_type g.payload_type k) refl (own k) (others k) (f.free k)
    where
      by : (b : Bool) → same_type g.payload_type k ≡ b → (b ≡ true → HaveSame (under after k) g.entries.items) → (b ≡ false → under after k ≡ under before k)
          → ((b || has_type more k) ≡ true → under before k ≡ [])
          → (In e (under after k) ⊎ In e (entries_under more k)) ↔ (In e (under before k) ⊎ In e (cond b g.entries.items [] ++ entries_under more k))
      by true s same kept free = (there, back)
        where
          there : In e (under after k) ⊎ In e (entries_under more k) → In e (under before k) ⊎ In e (g.entries.items ++ entries_under more k)
          there (inl m) = inr (In-append_left e g.entries.items (entries_under more k) ((same refl e).0 m))
          there (inr m) = inr (In-append_right e g.entries.items (entries_under more k) m)

          which : In e g.entries.items ⊎ In e (entries_under more k) → In e (under after k) ⊎ In e (entries_under more k)
          which (inl m) = inl ((same refl e).1 m)
          which (inr m) = inr m

          back : In e (under before k) ⊎ In e (g.entries.items ++ entries_under more k) → In e (under after k) ⊎ In e (entries_under more k)
          back (inl m) = absurd (subst (λ (es : List Entry). In e es) (free refl) m)
          back (inr m) = which (In-append_cases e g.entries.items (entries_under more k) m)
      by false s same kept free = (there, back)
        where
          there : In e (under after k) ⊎ In e (entries_under more k) → In e (under before k) ⊎ In e (entries_under more k)
          there (inl m) = inl (subst (λ (es : List Entry). In e es) (kept refl) m)
          there (inr m) = inr m

          back : In e (under before k) ⊎ In e (entries_under more k) → In e (under after k) ⊎ In e (entries_under more k)
          back (inl m) = inl (subst (λ (es : List Entry). In e es) (sym (kept refl)) m)
          back (inr m) = inr m

  later_free : (k : PayloadType) → has_type more k ≡ true → under after k ≡ []
  unfolding IsDistinct
  later_free k h = by (same_type g.payload_type k) refl
    where
      by : (b : Bool) → same_type g.payload_type k ≡ b → under after k ≡ []
      by true s = absurd (cc (none_like g.payload_type k s more f.types.0, h))
      by false s = others k s ∙ f.free k (rw s h)

  one_filled : AreFilled all more after
  unfolding IsDistinct
  one_filled = record {
    held = λ k e.
        (λ m. (f.held k e).0 ((later_held k e).0 m), λ m. (later_held k e).1 ((f.held k e).1 m));
    free = later_free;
    types = f.types.1;
    distinct = λ k. distinct_later (own_entries g k) (entries_under more k) (f.distinct k);
  }

pub next_filled : (all rest more : List TypeEntries) (g : TypeEntries) (before after : Indexes) → rest ≡ g ∷ more → AreFilled all rest before
    → ((k : PayloadType) → same_type g.payload_type k ≡ true → HaveSame (under after k) g.entries.items)
    → ((k : PayloadType) → same_type g.payload_type k ≡ false → under after k ≡ under before k)
    → AreFilled all more after
next_filled all rest more g before after is f own others =
    one_filled all more g before after (subst (λ (gs : List TypeEntries). AreFilled all gs before) is f) own others
