-- Entries whose written numbers rise are new among entries with numbers below theirs.
use Rattle.std.proofs.Common.{◌≡◌, ℕ, suc, ◌+◌, ◌<◌, ◌≤◌, ◌||◌, Bool, true, false, not, cond, List, [], ◌∷◌, ◌++◌, length, filter, refl, arith}
use Rattle.std.specs.List.{AllByRecursion, list_any}
use Rattle.std.specs.List.Sorted.{IsPermutation}
use Rattle.std.proofs.lemmas.Bool.Decides.{nat_tests}
use Rattle.std.proofs.lemmas.List.Elements.{All-from_recursion, recursion_from_All}
use Rattle.std.proofs.lemmas.List.Sorted.{All-permutation}
use Rattle.adr_model.specs.declared.entry.Entry.{Entry}
use Rattle.adr_model.specs.Entries.{is_listed_before}
use Rattle.adr_index.specs.Index.{inserted, inserted_all, is_entry, others, others_all, AreDistinct, AreNew}
use Rattle.adr_trials.specs.Numbers.{AreBelow, AreRising}

pub rising_more : (n : ℕ) (es : List Entry) (e : Entry) → AreRising n es → e.rank.written ≡ n + length es → AreRising n (es ++ e ∷ [])
rising_more n [] e r h = (omega (arith, h), tt)
rising_more n (x ∷ xs) e r h = (r.0, rising_more (suc n) xs e r.1 (omega (arith, h)))

not_it : (w p : ℕ) (e : Entry) → w < e.rank.written → is_entry w p e ≡ false
not_it w p e lt = grind (arith, nat_tests)

not_it_yet : (w p : ℕ) (e : Entry) → e.rank.written < w → is_entry w p e ≡ false
not_it_yet w p e lt = grind (arith, nat_tests)

none_earlier : (n w p : ℕ) (es : List Entry) → w < n → AreRising n es → filter (is_entry w p) es ≡ []
none_earlier n w p [] lt r = refl
none_earlier n w p (e ∷ es) lt r = rw (not_it w p e (omega (arith, lt, r.0))) (none_earlier (suc n) w p es (omega (arith, lt)) r.1)

pub rising_distinct : (n : ℕ) (es : List Entry) → AreRising n es → AreDistinct es
rising_distinct n [] r w p = omega arith
rising_distinct n (e ∷ es) r w p = either (is_entry w p e) refl (rising_distinct (suc n) es r.1 w p)
  where
    same : is_entry w p e ≡ true → e.rank.written ≡ w
    same h = grind (arith, nat_tests)

    either : (x : Bool) → is_entry w p e ≡ x → length (filter (is_entry w p) es) ≤ 1 → length (cond x (e ∷ filter (is_entry w p) es) (filter (is_entry w p) es)) ≤ 1
    either true h rest = rw (none_earlier (suc n) w p es (omega (arith, same h, r.0)) r.1) (omega arith)
    either false h rest = rest

all_more : (P Q : Entry → Type 0) → ((f : Entry) → P f → Q f) → (es : List Entry) → AllByRecursion P es → AllByRecursion Q es
all_more P Q f [] h = tt
all_more P Q f (e ∷ es) h = (f e h.0, all_more P Q f es h.1)

below_more : (m n : ℕ) (es : List Entry) → m ≤ n → AreBelow m es → AreBelow n es
below_more m n es le h = all_more (λ e. e.rank.written < m) (λ e. e.rank.written < n) (λ e lt. omega (arith, lt, le)) es h

rising_below : (n m : ℕ) (es : List Entry) → AreRising n es → n + length es ≤ m → AreBelow m es
rising_below n m [] r le = tt
rising_below n m (e ∷ es) r le = (omega (arith, r.0, le), rising_below (suc n) m es r.1 (omega (arith, le)))

pub below_permuted : (n : ℕ) (es fs : List Entry) → AreRising 0 es → n ≡ length es → IsPermutation es fs → AreBelow n fs
below_permuted n es fs r is h =
    recursion_from_All (λ e. e.rank.written < n) fs (All-permutation (λ e. e.rank.written < n) es fs h (All-from_recursion (λ e. e.rank.written < n) es (rising_below 0 n es r (omega (arith, is)))))

below_filter : (n : ℕ) (p : Entry → Bool) (es : List Entry) → AreBelow n es → AreBelow n (filter p es)
below_filter n p [] h = tt
below_filter n p (e ∷ es) h = either (p e) (below_filter n p es h.1)
  where
    either : (x : Bool) → AreBelow n (filter p es) → AreBelow n (cond x (e ∷ filter p es) (filter p es))
    either true rest = (h.0, rest)
    either false rest = rest

below_joined : (n : ℕ) (xs : List Entry) (e : Entry) (ys : List Entry) → AreBelow n xs → e.rank.written < n → AreBelow n ys → AreBelow n (xs ++ e ∷ ys)
below_joined n [] e ys h lt k = (lt, k)
below_joined n (x ∷ xs) e ys h lt k = (h.0, below_joined n xs e ys h.1 lt k)

below_inserted : (n : ℕ) (e : Entry) (es : List Entry) → AreBelow n es → e.rank.written ≡ n → AreBelow (suc n) (inserted e es)
below_inserted n e es h is =
    let later = below_more n (suc n) es (omega arith) h in
    below_joined (suc n) (filter (λ x. is_listed_before x e) es) e (filter (λ x. not (is_listed_before x e)) es)
    (below_filter (suc n) (λ x. is_listed_before x e) es later)
    (omega (arith, is))
    (below_filter (suc n) (λ x. not (is_listed_before x e)) es later)

below_others : (n : ℕ) (old es : List Entry) → AreBelow n es → AreBelow n (others_all old es)
below_others n [] es h = h
below_others n (e ∷ old) es h = below_others n old (others e es) (below_filter n (λ x. is_listed_before x e || is_listed_before e x) es h)

below_all : (n : ℕ) (new es : List Entry) → AreBelow n es → AreRising n new → AreBelow (n + length new) (inserted_all new es)
below_all n [] es h r = below_more n (n + 0) es (omega arith) h
below_all n (e ∷ new) es h r =
    below_more (suc n + length new) (n + suc (length new)) (inserted_all new (inserted e es)) (omega arith) (below_all (suc n) new (inserted e es) (below_inserted n e es h r.0) r.1)

none_so : (n w p : ℕ) (es : List Entry) → AreBelow n es → w ≡ n → list_any (is_entry w p) es ≡ false
none_so n w p [] h is = refl
none_so n w p (e ∷ es) h is = rw (not_it_yet w p e (omega (arith, h.0, is))) (none_so n w p es h.1 is)

pub new_ones : (n : ℕ) (new es : List Entry) → AreBelow n es → AreRising n new → AreNew new es
new_ones n [] es h r = tt
new_ones n (e ∷ new) es h r = (none_so n e.rank.written e.rank.place es h r.0, new_ones (suc n) new (inserted e es) (below_inserted n e es h r.0) r.1)

-- an event that is written again with sixteen entries
module _ (n : ℕ) (old new es : List Entry) (below : AreBelow n es) (rising : AreRising n new) where
  pub fresh_again : AreNew new (others_all old es)
  fresh_again = new_ones n new (others_all old es) (below_others n old es below) rising

  pub below_again : (m : ℕ) → length new ≡ 16 → n + 16 ≤ m → AreBelow m (inserted_all new (others_all old es))
  below_again m is le = below_more (n + length new) m (inserted_all new (others_all old es)) (omega (arith, is, le)) (below_all n new (others_all old es) (below_others n old es below) rising)
