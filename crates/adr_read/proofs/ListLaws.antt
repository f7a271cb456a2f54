-- A list, one element more.
use Rattle.std.proofs.Common.{◌≡◌, ℕ, suc, ◌+◌, ◌<◌, ◌≤◌, min, List, [], ◌∷◌, ◌++◌, length, refl, sym, ap, ◌∙◌, arith, add-zero, append-nil, Bool, false, true, inl, inr}
use Rattle.std.specs.Prelude.{◌⊎◌, None, Ok, Err, nat_le, nat_lt, if◌then◌else◌}
use Rattle.std.specs.List.{flat_map}
use Rattle.std.proofs.lemmas.List.Concat.{flat_map-append}
use borrow.Author.Tests.{ltb-true, ltb-false}
use Rattle.std.proofs.lemmas.Bool.{lt-ltb}
use Rattle.std.proofs.lemmas.Bool.Decides.{leb_tells}
use Rattle.std.proofs.Math.Dec.{leb}
use Rattle.serde_json.specs.Data.{Data, array}
use Rattle.serde_json.specs.Find.{as_array}
use Rattle.serde_json.specs.View.{items_of}
use Rattle.adr_refusal.proofs.Judged.{least-append, least_le, number_of_le}
use Rattle.adr_refusal.specs.Faults.{least, none, Gives}
use Rattle.adr_refusal.specs.Refusal.{number_of}
use Rattle.adr_refusal.specs.declared.refusal.Refusal.{Refusal}
use Rattle.adr_refusal.specs.declared.refusal.Refusal.TheVariants.{TooMany}
use Rattle.adr_read.specs.Looking.{elements}
use Rattle.adr_read.specs.Sets.{unless, list_faults, at_places, list_in}
use Rattle.adr_read.specs.Listed.{AreOf}

at_places-push : {X A : Type 0} (f : ℕ → X → A) (n : ℕ) (xs : List X) (y : X) → at_places f n (xs ++ y ∷ []) ≡ at_places f n xs ++ f (n + length xs) y ∷ []
at_places-push f n [] y = ap (λ (k : ℕ). f k y ∷ []) (sym (add-zero n))
at_places-push {A = A} f n (x ∷ xs) y =
    let k : n + 1 + length xs ≡ n + suc (length xs) = omega arith in
    ap (λ (ys : List A). f n x ∷ ys) (at_places-push f (n + 1) xs y) ∙ ap (λ (k : ℕ). f n x ∷ (at_places f (n + 1) xs ++ f k y ∷ [])) k

pub length-at_places : {X A : Type 0} (f : ℕ → X → A) (n : ℕ) (xs : List X) → length (at_places f n xs) ≡ length xs
length-at_places f n [] = refl
length-at_places f n (x ∷ xs) = ap suc (length-at_places f (n + 1) xs)

least-flat_map-push : (f : Data → List Refusal) (ds : List Data) (d : Data) → least (flat_map f (ds ++ d ∷ [])) ≡ min (least (flat_map f ds)) (least (f d))
least-flat_map-push f ds d = ap least (flat_map-append f ds (d ∷ [])) ∙ least-append (flat_map f ds) (flat_map f (d ∷ [])) ∙ ap (λ (fs : List Refusal). min (least (flat_map f ds)) (least fs)) (append-nil (f d))

-- the fault of a list of that length
abbrev too_many : ℕ → ℕ → ℕ
too_many n limit = least (unless (nat_le n limit) TooMany)

fits_or_not : (n limit : ℕ) → ((leb n limit ≡ true) × (n ≤ limit)) ⊎ ((leb n limit ≡ false) × (limit < n)) → ((n ≤ limit) × (too_many n limit ≡ 100)) ⊎ ((limit < n) × (too_many n limit ≡ 18))
fits_or_not n limit (inl h) = inl (h.1, rw h.0 refl)
fits_or_not n limit (inr h) = inr (h.1, rw h.0 refl)

too_many_is : (n limit : ℕ) → ((n ≤ limit) × (too_many n limit ≡ 100)) ⊎ ((limit < n) × (too_many n limit ≡ 18))
too_many_is n limit = fits_or_not n limit (leb_tells n limit)

-- what counting one more element leaves
abbrev Counted : ℕ → ℕ → ℕ → ℕ → ℕ → Type 0
Counted limit count faults new_count new_faults =
    ((count < limit) × (new_count ≡ count + 1) × (new_faults ≡ faults)) ⊎ ((limit ≤ count) × (new_count ≡ count) × (new_faults ≡ min faults 18))

counted_as : (limit count faults new_count new_faults : ℕ) (b : Bool) → nat_lt count limit ≡ b
    → new_count ≡ (if b then count + 1 else count) → new_faults ≡ (if b then faults else min faults 18) → Counted limit count faults new_count new_faults
counted_as limit count faults new_count new_faults true is c f = inl (ltb-true count limit is, c, f)
counted_as limit count faults new_count new_faults false is c f = inr (ltb-false count limit is, c, f)

length-push : (ds : List Data) (d : Data) → length (ds ++ d ∷ []) ≡ length ds + 1
length-push [] d = refl
length-push (e ∷ ds) d = omega (arith, length-push ds d)

kept_items : {T : Type 0} (b : Bool) (items new_items more : List T) → new_items ≡ (if b then more else items) → b ≡ true → new_items ≡ more
kept_items true items new_items more is e = is
kept_items false items new_items more is e = absurd cc

module _ {T : Type 0} (limit : ℕ) (f : Data → List Refusal) (s : ℕ → Data → T) (items : List T) (count faults : ℕ) (ds : List Data) (so_far : AreOf limit f s items count faults ds) (d : Data) (new_count counted_faults : ℕ) where
  counted_more : Counted limit count faults new_count counted_faults → new_count ≡ min (length (ds ++ d ∷ [])) limit
  counted_more (inl h) = omega (arith, h.0, h.1, so_far.counted, length-push ds d)
  counted_more (inr h) = omega (arith, h.0, h.1, so_far.counted, length-push ds d)

  faults_more_at : (n m : ℕ) → ((length ds ≤ limit) × (n ≡ 100)) ⊎ ((limit < length ds) × (n ≡ 18)) → ((length ds + 1 ≤ limit) × (m ≡ 100)) ⊎ ((limit < length ds + 1) × (m ≡ 18))
      → (least_so_far : ℕ) → faults ≡ min n least_so_far → least_so_far ≤ 100 → Counted limit count faults new_count counted_faults → counted_faults ≡ min m least_so_far
  faults_more_at n m (inl h) (inl k) least_so_far e le (inl c) = omega (arith, h.1, k.1, e, le, c.2)
  faults_more_at n m (inl h) (inl k) least_so_far e le (inr c) = let never : ⊥ = omega (arith, c.0, k.0, so_far.counted) in absurd never
  faults_more_at n m (inl h) (inr k) least_so_far e le (inl c) = let never : ⊥ = omega (arith, c.0, k.0, so_far.counted) in absurd never
  faults_more_at n m (inl h) (inr k) least_so_far e le (inr c) = omega (arith, h.1, k.1, e, le, c.2)
  faults_more_at n m (inr h) (inl k) least_so_far e le c = let never : ⊥ = omega (arith, h.0, k.0) in absurd never
  faults_more_at n m (inr h) (inr k) least_so_far e le (inl c) = let never : ⊥ = omega (arith, c.0, h.0, so_far.counted) in absurd never
  faults_more_at n m (inr h) (inr k) least_so_far e le (inr c) = omega (arith, h.1, k.1, e, le, c.2)

  faults_more : Counted limit count faults new_count counted_faults → counted_faults ≡ min (too_many (length (ds ++ d ∷ [])) limit) (least (flat_map f ds))
  faults_more c =
      faults_more_at (too_many (length ds) limit) (too_many (length ds + 1) limit) (too_many_is (length ds) limit) (too_many_is (length ds + 1) limit) (least (flat_map f ds)) so_far.least_fault (least_le (flat_map f ds)) c
      ∙ ap (λ n. min (too_many n limit) (least (flat_map f ds))) (sym (length-push ds d))

  no_fault : Counted limit count faults new_count counted_faults → counted_faults ≡ none → (faults ≡ none) × (count < limit)
  no_fault (inl h) e = (omega (arith, h.2, e), h.0)
  no_fault (inr h) e = let never : ⊥ = omega (arith, h.2, e) in absurd never

  values_more : (new_items : List T) (x : T) → new_items ≡ (if nat_lt (length items) limit then items ++ x ∷ [] else items) → x ≡ s (length items) d → (faults ≡ none) × (count < limit) → new_items ≡ at_places s 0 (ds ++ d ∷ [])
  values_more new_items x is made ok =
      let old : items ≡ at_places s 0 ds = so_far.values ok.0 in
      let len : length items ≡ length ds = ap length old ∙ length-at_places s 0 ds in
      let fits : nat_lt (length items) limit ≡ true = lt-ltb (length items) limit (omega (arith, len, ok.1, so_far.counted)) in
      let place : length items ≡ 0 + length ds = omega (arith, len) in
      kept_items _ items new_items (items ++ x ∷ []) is fits ∙ ap (λ (y : T). items ++ y ∷ []) (made ∙ ap (λ n. s n d) place) ∙ ap (λ (xs : List T). xs ++ s (0 + length ds) d ∷ []) old ∙ sym (at_places-push s 0 ds d)

  pub value_added : (new_items : List T) (new_faults : ℕ) (x : T)
      → new_count ≡ (if nat_lt count limit then count + 1 else count) → counted_faults ≡ (if nat_lt count limit then faults else min faults 18)
      → new_items ≡ (if nat_lt (length items) limit then items ++ x ∷ [] else items) → new_faults ≡ counted_faults
      → (least (f d) ≡ none) × (x ≡ s (length items) d) → AreOf limit f s new_items new_count new_faults (ds ++ d ∷ [])
  value_added new_items new_faults x c cf is same made =
      let counted = counted_as limit count faults new_count counted_faults _ refl c cf in
      let more = faults_more counted in
      let all = least-flat_map-push f ds d in
      let bound = least_le (flat_map f ds) in
      record {
        counted = counted_more counted;
        least_fault = same ∙ more ∙ ap (min (too_many (length (ds ++ d ∷ [])) limit)) (let kept : least (flat_map f ds) ≡ least (flat_map f (ds ++ d ∷ [])) = omega (arith, all, bound, made.0) in kept);
        values = λ e. values_more new_items x is made.1 (no_fault counted (sym same ∙ e));
      }

  pub fault_added : (new_faults : ℕ) (fault : Refusal)
      → new_count ≡ (if nat_lt count limit then count + 1 else count) → counted_faults ≡ (if nat_lt count limit then faults else min faults 18)
      → new_faults ≡ min counted_faults (number_of fault) → number_of fault ≡ least (f d) → AreOf limit f s items new_count new_faults (ds ++ d ∷ [])
  fault_added new_faults fault c cf same is =
      let counted = counted_as limit count faults new_count counted_faults _ refl c cf in
      let more = faults_more counted in
      let all = least-flat_map-push f ds d in
      record {
        counted = counted_more counted;
        least_fault = omega (arith, same, more, all, is);
        values = λ e. let never : ⊥ = omega (arith, e, same, number_of_le fault) in absurd never;
      }

-- ---- the whole list

pub elements-items_of : (ds : List Data) → elements (items_of ds) ≡ ds
elements-items_of [] = refl
elements-items_of (d ∷ ds) = ap (λ (es : List Data). d ∷ es) (elements-items_of ds)

all_faults : (limit : ℕ) (f : Data → List Refusal) (ds : List Data) → least (list_faults limit f (array (items_of ds))) ≡ min (too_many (length ds) limit) (least (flat_map f ds))
all_faults limit f ds = least-append _ (flat_map f (elements (items_of ds))) ∙ ap (λ (es : List Data). min (too_many (length es) limit) (least (flat_map f es))) (elements-items_of ds)

module _ {T : Type 0} (limit : ℕ) (f : Data → List Refusal) (s : ℕ → Data → T) (items : List T) (count faults : ℕ) (ds : List Data) (so_far : AreOf limit f s items count faults ds) where
  pub list_given : (list : List T) → list ≡ items → faults ≡ none → Gives (Ok list) (list_faults limit f (array (items_of ds))) (list_in s (array (items_of ds)))
  list_given list is e = (all_faults limit f ds ∙ sym so_far.least_fault ∙ e, is ∙ so_far.values e ∙ ap (at_places s 0) (sym (elements-items_of ds)))

  pub list_refused : (fault : Refusal) → number_of fault ≡ faults → Gives {T = List T} (Err fault) (list_faults limit f (array (items_of ds))) (list_in s (array (items_of ds)))
  list_refused fault is _ = is ∙ so_far.least_fault ∙ sym (all_faults limit f ds)

-- what is no array has one fault
pub no_list : (limit : ℕ) (f : Data → List Refusal) (d : Data) → as_array d ≡ None → least (list_faults limit f d) ≡ 11
no_list limit f d none = rw none refl
