-- Entries of one chunk that are taken out or added together.
use Rattle.std.proofs.Common.{◌≡◌, ℕ, zero, suc, ◌+◌, ◌-◌, ◌<◌, ◌≤◌, true, false, List, [], ◌∷◌, ◌++◌, length, take, drop, get_or, set, refl, sym, ◌∙◌, ap, arith}
use Rattle.std.specs.List.{AllByRecursion, remove}
use Rattle.std.proofs.lemmas.List.{take-append-drop, length-append}
use Rattle.adr_model.specs.declared.entry.Entry.{Entry}
use Rattle.adr_model.specs.Entries.{is_listed_before}
use Rattle.adr_index.specs.declared.chunk.EntryChunk.{EntryChunk}
use Rattle.adr_index.specs.Chunks.{all_listed, listed, EndsBefore, GoTogether}
use Rattle.adr_index.specs.Index.{inserted, inserted_all, others, others_all, AreNew, IsOrdered}
use Rattle.adr_index.proofs.Ordered.{all_joined, all_left, all_more, inserted_between, length_inserted, listed_trans, ordered_first, ordered_inserted, ordered_middle, ordered_others, others_between, up_to_last}
use Rattle.adr_index.proofs.Placed.{all_removed, all_set, around, goes_left}

-- ---- one run behind another

pub others_parts : (xs ys es : List Entry) → others_all (xs ++ ys) es ≡ others_all ys (others_all xs es)
others_parts [] ys es = refl
others_parts (x ∷ xs) ys es = others_parts xs ys (others x es)

pub others_rest : (n : ℕ) (es xs : List Entry) → others_all (drop n es) (others_all (take n es) xs) ≡ others_all es xs
others_rest n es xs = sym (others_parts (take n es) (drop n es) xs) ∙ ap (λ (ys : List Entry). others_all ys xs) (take-append-drop n es)

pub inserted_parts : (xs ys es : List Entry) → inserted_all (xs ++ ys) es ≡ inserted_all ys (inserted_all xs es)
inserted_parts [] ys es = refl
inserted_parts (x ∷ xs) ys es = inserted_parts xs ys (inserted x es)

pub inserted_rest : (n : ℕ) (es xs : List Entry) → inserted_all (drop n es) (inserted_all (take n es) xs) ≡ inserted_all es xs
inserted_rest n es xs = sym (inserted_parts (take n es) (drop n es) xs) ∙ ap (λ (ys : List Entry). inserted_all ys xs) (take-append-drop n es)

pub new_first : (n : ℕ) (es xs : List Entry) → AreNew es xs → AreNew (take n es) xs
new_first zero es xs h = tt
new_first (suc n) [] xs h = tt
new_first (suc n) (e ∷ es) xs h = (h.0, new_first n es (inserted e xs) h.1)

pub new_rest : (n : ℕ) (es xs : List Entry) → AreNew es xs → AreNew (drop n es) (inserted_all (take n es) xs)
new_rest zero es xs h = h
new_rest (suc n) [] xs h = tt
new_rest (suc n) (e ∷ es) xs h = new_rest n es (inserted e xs) h.1

-- ---- the first of a run

pub take_fewer : (n m : ℕ) (xs : List Entry) → n ≤ m → take n (take m xs) ≡ take n xs
take_fewer zero m xs le = refl
take_fewer (suc n) zero xs le = absurd (omega (arith, le))
take_fewer (suc n) (suc m) [] le = refl
take_fewer (suc n) (suc m) (x ∷ xs) le = ap (λ (ys : List Entry). x ∷ ys) (take_fewer n m xs (omega (arith, le)))

pub first_together : (c : EntryChunk) (n : ℕ) (es : List Entry) → GoTogether c es → GoTogether c (take n es)
first_together c zero es h = tt
first_together c (suc n) [] h = tt
first_together c (suc n) (e ∷ es) h = (ordered_first (suc n) (e ∷ es) h.0, all_left (λ f. EndsBefore c f false) (take n es) (drop n es) (rw (take-append-drop n es) h.1))

pub together_ordered : (c : EntryChunk) (es : List Entry) → GoTogether c es → IsOrdered es
together_ordered c [] h = tt
together_ordered c (e ∷ es) h = h.0

pub together_one : (c : EntryChunk) (es : List Entry) → GoTogether c (take 1 es)
together_one c [] = tt
together_one c (e ∷ es) = ((tt, tt), tt)

-- one more, behind the last
pub together_more : (c : EntryChunk) (es : List Entry) (x e : Entry) → 0 < length es → x ≡ get_or es (length es - 1) x → GoTogether c es → is_listed_before x e ≡ true → EndsBefore c e false → GoTogether c (es ++ e ∷ [])
together_more c [] x e some read h k ends = absurd (omega (arith, some))
together_more c (f ∷ es) x e some read h k ends = (
  ordered_middle (f ∷ es) e [] h.0 (up_to_last (f ∷ es) (length (f ∷ es) - 1) x e h.0 (omega arith) read k) tt tt,
  all_joined (λ g. EndsBefore c g false) es (e ∷ []) h.1 (ends, tt),
)

-- ---- what a run leaves

pub ordered_taken : (run es : List Entry) → IsOrdered es → IsOrdered (others_all run es)
ordered_taken [] es o = o
ordered_taken (e ∷ run) es o = ordered_taken run (others e es) (ordered_others e es o)

pub ordered_put : (run es : List Entry) → IsOrdered es → AreNew run es → IsOrdered (inserted_all run es)
ordered_put [] es o h = o
ordered_put (e ∷ run) es o h = ordered_put run (inserted e es) (ordered_inserted e es o h.0) h.1

pub length_put : (run es : List Entry) → length (inserted_all run es) ≡ length es + length run
length_put [] es = omega arith
length_put (e ∷ run) es = rw (length_put run (inserted e es), length_inserted e es) (omega arith)

-- ---- between what comes before all of a run and what comes after

abbrev Stands : List Entry → List Entry → Entry → Type 0
Stands front back e = AllByRecursion (λ x. is_listed_before x e ≡ true) front × AllByRecursion (λ x. is_listed_before e x ≡ true) back

pub taken_between : (front middle back run : List Entry) → AllByRecursion (Stands front back) run → others_all run (front ++ (middle ++ back)) ≡ front ++ (others_all run middle ++ back)
taken_between front middle back [] h = refl
taken_between front middle back (e ∷ run) h = rw (others_between front middle back e h.0.0 h.0.1) (taken_between front (others e middle) back run h.1)

put_between : (front middle back run : List Entry) → AllByRecursion (Stands front back) run → inserted_all run (front ++ (middle ++ back)) ≡ front ++ (inserted_all run middle ++ back)
put_between front middle back [] h = refl
put_between front middle back (e ∷ run) h = rw (inserted_between front middle back e h.0.0 h.0.1) (put_between front (inserted e middle) back run h.1)

-- ---- in a chunk

module _ (cs : List EntryChunk) (k : ℕ) (c : EntryChunk) (inside : k < length cs) (read : c ≡ get_or cs k c) (some : 0 < length (listed c)) (order : IsOrdered (all_listed cs)) where
  -- those that go together with the first of them, which belongs to the chunk
  pub all_stand : (first : Entry) (es : List Entry) (n : ℕ) → first ≡ get_or es 0 first → AllByRecursion (λ x. is_listed_before x first ≡ true) (all_listed (take k cs)) → AllByRecursion (λ x. is_listed_before first x ≡ true) (all_listed (drop (k + 1) cs)) → GoTogether c (take n es) → AllByRecursion (Stands (all_listed (take k cs)) (all_listed (drop (k + 1) cs))) (take n es)
  all_stand first es zero is before after together = tt
  all_stand first [] (suc n) is before after together = tt
  all_stand first (e ∷ es) (suc n) is before after together = ((front, rw (← is) after), each (take n es) together.0.0 together.1)
    where
      front : AllByRecursion (λ x. is_listed_before x e ≡ true) (all_listed (take k cs))
      front = rw (← is) before

      each : (fs : List Entry) → AllByRecursion (λ f. is_listed_before e f ≡ true) fs → AllByRecursion (λ f. EndsBefore c f false) fs → AllByRecursion (Stands (all_listed (take k cs)) (all_listed (drop (k + 1) cs))) fs
      each [] h t = tt
      each (f ∷ fs) h t = (
        (
          all_more (λ x. is_listed_before x e ≡ true) (λ x. is_listed_before x f ≡ true) (λ x b. listed_trans x e f b h.0) (all_listed (take k cs)) front,
          goes_left cs k c inside read f some order t.0,
        ),
        each fs h.1 t.1,
      )

module _ (cs : List EntryChunk) (k : ℕ) (c new : EntryChunk) (run : List Entry) (inside : k < length cs) (read : c ≡ get_or cs k c) (stand : AllByRecursion (Stands (all_listed (take k cs)) (all_listed (drop (k + 1) cs))) run) where
  pub put_run : listed new ≡ inserted_all run (listed c) → all_listed (set cs k new) ≡ inserted_all run (all_listed cs)
  put_run h = rw (all_set cs k new inside, around cs k c inside read, put_between (all_listed (take k cs)) (listed c) (all_listed (drop (k + 1) cs)) run stand, ← h) refl

  module _ (h : listed new ≡ others_all run (listed c)) where
    pub take_run : all_listed (set cs k new) ≡ others_all run (all_listed cs)
    take_run = rw (all_set cs k new inside, around cs k c inside read, taken_between (all_listed (take k cs)) (listed c) (all_listed (drop (k + 1) cs)) run stand, ← h) refl

    pub take_gone : length (listed new) ≡ 0 → all_listed (remove (set cs k new) k) ≡ others_all run (all_listed cs)
    take_gone none = rw (all_removed cs k new inside, around cs k c inside read, taken_between (all_listed (take k cs)) (listed c) (all_listed (drop (k + 1) cs)) run stand, ← h, no_length (listed new) none) refl
      where
        no_length : (xs : List Entry) → length xs ≡ 0 → xs ≡ []
        no_length [] h = refl
        no_length (x ∷ xs) h = absurd (omega arith)

    -- how many are left
    pub take_count : length (others_all run (all_listed cs)) + length (listed c) ≡ length (all_listed cs) + length (listed new)
    take_count =
        rw (
          around cs k c inside read,
          taken_between (all_listed (take k cs)) (listed c) (all_listed (drop (k + 1) cs)) run stand,
          ← h,
          length-append (all_listed (take k cs)) (listed new ++ all_listed (drop (k + 1) cs)),
          length-append (listed new) (all_listed (drop (k + 1) cs)),
          length-append (all_listed (take k cs)) (listed c ++ all_listed (drop (k + 1) cs)),
          length-append (listed c) (all_listed (drop (k + 1) cs)),
        ) (omega arith)
