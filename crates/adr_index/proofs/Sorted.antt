-- Sorted entries are in order.
use Rattle.std.proofs.Common.{◌≡◌, ℕ, suc, ◌+◌, ◌<◌, ◌≤◌, Bool, true, false, cond, List, [], ◌∷◌, length, filter, get_or, refl, sym, ◌∙◌, arith, inl, inr}
use Rattle.std.specs.Cmp.{IsStrictWeakOrder}
use Rattle.std.specs.List.{AllByRecursion}
use Rattle.std.specs.List.Sorted.{IsPermutation, IsSortedBy}
use Rattle.std.proofs.lemmas.Bool.{cases_Bool, false≢true}
use Rattle.std.proofs.lemmas.Bool.Decides.{nat_tests}
use Rattle.std.proofs.lemmas.List.Sorted.{sorted_far, sum_by-IsPermutation}
use Rattle.std.proofs.lemmas.List.Sums.{length-filter}
use Rattle.adr_model.specs.declared.entry.Entry.{Entry}
use Rattle.adr_model.specs.Entries.{is_listed_before}
use Rattle.adr_index.specs.Index.{is_entry, AreDistinct, IsOrdered}
use Rattle.adr_index.proofs.Ordered.{all_both, listed_after, listed_asym, listed_total}

pub listed_weakly : IsStrictWeakOrder is_listed_before
listed_weakly = record {
  one_way = listed_asym;
  chain = λ a b c h k. elim (cases_Bool (is_listed_before a c)) [
    | inl before ↦ absurd (false≢true (sym k ∙ listed_after a b c h before))
    | inr not_before ↦ not_before
  ];
}

all_from : (P : Entry → Type 0) (es : List Entry) → ((k : ℕ) (d : Entry) → k < length es → P (get_or es k d)) → AllByRecursion P es
all_from P [] h = tt
all_from P (e ∷ es) h = (h 0 e (omega arith), all_from P es (λ k d lt. h (suc k) d (omega arith)))

-- none passes a test that no more than none pass
none_pass : (p : Entry → Bool) (es : List Entry) → length (filter p es) ≤ 0 → AllByRecursion (λ f. p f ≡ false) es
none_pass p [] le = tt
none_pass p (e ∷ es) le = either (p e) refl le (λ k. none_pass p es k)
  where
    either : (x : Bool) → p e ≡ x → length (cond x (e ∷ filter p es) (filter p es)) ≤ 0 → (length (filter p es) ≤ 0 → AllByRecursion (λ f. p f ≡ false) es) → AllByRecursion (λ f. p f ≡ false) (e ∷ es)
    either true h le rest = absurd (omega arith)
    either false h le rest = (h, rest le)

filter_rest : (p : Entry → Bool) (e : Entry) (es : List Entry) → length (filter p es) ≤ length (filter p (e ∷ es))
filter_rest p e es = either (p e)
  where
    either : (x : Bool) → length (filter p es) ≤ length (cond x (e ∷ filter p es) (filter p es))
    either true = omega arith
    either false = omega arith

is_itself : (e : Entry) → is_entry e.rank.written e.rank.place e ≡ true
is_itself e = grind (arith, nat_tests)

pub ordered_sorted : (es : List Entry) → IsSortedBy is_listed_before es → AreDistinct es → IsOrdered es
ordered_sorted [] s d = tt
ordered_sorted (e ∷ es) s d = (
  all_both (λ f. is_listed_before f e ≡ false) (λ f. is_entry e.rank.written e.rank.place f ≡ false) (λ f. is_listed_before e f ≡ true) (λ f h k. listed_total f e h k) es
      (all_from (λ f. is_listed_before f e ≡ false) es (λ k x lt. sorted_far is_listed_before listed_weakly (e ∷ es) s 0 (suc k) x (omega arith) (omega arith)))
      (none_pass (is_entry e.rank.written e.rank.place) es alone),
  ordered_sorted es (λ k x le lt. let next : suc k + 1 ≡ suc (k + 1) = omega arith in let down = s (suc k) x (omega arith) (omega arith) in rw next at down) (λ w p. omega (arith, d w p, filter_rest (is_entry w p) e es)),
)
  where
    alone : length (filter (is_entry e.rank.written e.rank.place) es) ≤ 0
    alone = let both = d e.rank.written e.rank.place in let one = rw (is_itself e) at both in omega arith

pub distinct_permuted : (es fs : List Entry) → IsPermutation es fs → AreDistinct es → AreDistinct fs
distinct_permuted es fs h d w p =
    let same = length-filter (is_entry w p) fs ∙ (sum_by-IsPermutation (λ e. cond (is_entry w p e) 1 0) es fs h ∙ sym (length-filter (is_entry w p) es)) in
    rw same (d w p)
