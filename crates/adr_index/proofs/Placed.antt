-- A chunk between those before it and those after it.
use Rattle.std.proofs.Common.{◌≡◌, ℕ, zero, suc, ◌+◌, ◌-◌, ◌<◌, ◌≤◌, true, false, ◌||◌, List, [], ◌∷◌, ◌++◌, length, take, drop, get_or, set, refl, sym, ◌∙◌, ap, arith}
use Rattle.std.specs.List.{AllByRecursion, insert, remove}
use Rattle.std.proofs.lemmas.List.{append-nil, append_assoc, drop_more, take_more, take-append-drop}
use Rattle.std.proofs.lemmas.List.Sums.{length-filter, count_by-le-length}
use Rattle.std.proofs.lemmas.List.Concat.{flat_map-append}
use Rattle.adr_model.specs.declared.entry.Entry.{Entry}
use Rattle.adr_model.specs.Entries.{is_listed_before}
use Rattle.adr_index.specs.declared.chunk.EntryChunk.{EntryChunk}
use Rattle.adr_index.specs.Chunks.{all_listed, listed, AreChunks, IsChunk, EndsBefore}
use Rattle.adr_index.specs.Index.{inserted, others, IsOrdered}
use Rattle.adr_index.proofs.Ordered.{all_after, all_before, inserted_between, ordered_left, ordered_right}

pub chunk_at : (cs : List EntryChunk) (k : ℕ) (c : EntryChunk) → AreChunks cs → k < length cs → c ≡ get_or cs k c → IsChunk c
chunk_at [] k c h lt read = absurd (omega arith)
chunk_at (d ∷ cs) zero c h lt read = rw read h.0
chunk_at (d ∷ cs) (suc k) c h lt read = chunk_at cs k c h.1 (omega arith) read

last_read : (es : List Entry) (i : ℕ) (d : Entry) → i < length es → get_or es i d ≡ get_or es i (get_or es i d)
last_read [] i d lt = absurd (omega arith)
last_read (x ∷ xs) zero d lt = refl
last_read (x ∷ xs) (suc i) d lt = last_read xs i d (omega arith)

module _ (cs : List EntryChunk) (k : ℕ) (c : EntryChunk) (inside : k < length cs) (read : c ≡ get_or cs k c) where
  pub around : all_listed cs ≡ all_listed (take k cs) ++ (listed c ++ all_listed (drop (k + 1) cs))
  around =
      ap all_listed (sym (take-append-drop k cs))
      ∙ (flat_map-append listed (take k cs) (drop k cs)
      ∙ ap (λ (xs : List Entry). all_listed (take k cs) ++ xs) (ap all_listed (drop_more cs k c inside) ∙ ap (λ (d : EntryChunk). listed d ++ all_listed (drop (k + 1) cs)) (sym read)))

  pub up_to : all_listed (take (k + 1) cs) ≡ all_listed (take k cs) ++ listed c
  up_to =
      ap all_listed (take_more cs k c inside)
      ∙ (flat_map-append listed (take k cs) (get_or cs k c ∷ [])
      ∙ (ap (λ (d : EntryChunk). all_listed (take k cs) ++ (listed d ++ [])) (sym read) ∙ ap (λ (xs : List Entry). all_listed (take k cs) ++ xs) (append-nil (listed c))))

  pub chunk_ordered : IsOrdered (all_listed cs) → IsOrdered (listed c)
  chunk_ordered o = ordered_left (listed c) (all_listed (drop (k + 1) cs)) (ordered_right (all_listed (take k cs)) (listed c ++ all_listed (drop (k + 1) cs)) (rw around at o))

  module _ (e : Entry) (some : 0 < length (listed c)) (order : IsOrdered (all_listed cs)) where
    pub goes_right : EndsBefore c e true → AllByRecursion (λ x. is_listed_before x e ≡ true) (all_listed (take (k + 1) cs))
    goes_right ends =
        let x = get_or (listed c) (length (listed c) - 1) e in
        rw up_to (all_before (all_listed (take k cs)) (listed c) (all_listed (drop (k + 1) cs)) x e (rw around at order) some (last_read (listed c) (length (listed c) - 1) e (omega arith)) (ends e))

    pub goes_left : EndsBefore c e false → AllByRecursion (λ x. is_listed_before e x ≡ true) (all_listed (drop (k + 1) cs))
    goes_left ends =
        let x = get_or (listed c) (length (listed c) - 1) e in
        all_after (all_listed (take k cs)) (listed c) (all_listed (drop (k + 1) cs)) x e (rw around at order) some (last_read (listed c) (length (listed c) - 1) e (omega arith)) (ends e)

pub all_set : (cs : List EntryChunk) (k : ℕ) (c : EntryChunk) → k < length cs → all_listed (set cs k c) ≡ all_listed (take k cs) ++ (listed c ++ all_listed (drop (k + 1) cs))
all_set [] k c lt = absurd (omega arith)
all_set (d ∷ cs) zero c lt = refl
all_set (d ∷ cs) (suc k) c lt = let next : suc k + 1 ≡ suc (k + 1) = omega arith in rw next (ap (λ (xs : List Entry). listed d ++ xs) (all_set cs k c (omega arith)) ∙ sym (append_assoc (listed d) (all_listed (take k cs)) (listed c ++ all_listed (drop (k + 1) cs))))

all_set_insert : (cs : List EntryChunk) (k : ℕ) (c o : EntryChunk) → k < length cs → all_listed (insert (set cs k c) (k + 1) o) ≡ all_listed (take k cs) ++ ((listed c ++ listed o) ++ all_listed (drop (k + 1) cs))
all_set_insert [] k c o lt = absurd (omega arith)
all_set_insert (d ∷ cs) zero c o lt = sym (append_assoc (listed c) (listed o) (all_listed cs))
all_set_insert (d ∷ cs) (suc k) c o lt = let next : suc k + 1 ≡ suc (k + 1) = omega arith in rw next (ap (λ (xs : List Entry). listed d ++ xs) (all_set_insert cs k c o (omega arith)) ∙ sym (append_assoc (listed d) (all_listed (take k cs)) ((listed c ++ listed o) ++ all_listed (drop (k + 1) cs))))

pub all_removed : (cs : List EntryChunk) (k : ℕ) (c : EntryChunk) → k < length cs → all_listed (remove (set cs k c) k) ≡ all_listed (take k cs) ++ all_listed (drop (k + 1) cs)
all_removed [] k c lt = absurd (omega arith)
all_removed (d ∷ cs) zero c lt = refl
all_removed (d ∷ cs) (suc k) c lt = let next : suc k + 1 ≡ suc (k + 1) = omega arith in rw next (ap (λ (xs : List Entry). listed d ++ xs) (all_removed cs k c (omega arith)) ∙ sym (append_assoc (listed d) (all_listed (take k cs)) (all_listed (drop (k + 1) cs))))

module _ (cs : List EntryChunk) (k : ℕ) (c new : EntryChunk) (e : Entry) (inside : k < length cs) (read : c ≡ get_or cs k c) where
  module _ (before : AllByRecursion (λ x. is_listed_before x e ≡ true) (all_listed (take k cs))) (after : AllByRecursion (λ x. is_listed_before e x ≡ true) (all_listed (drop (k + 1) cs))) where
    pub put_one : listed new ++ [] ≡ inserted e (listed c) → all_listed (set cs k new) ≡ inserted e (all_listed cs)
    put_one h = rw (all_set cs k new inside, around cs k c inside read, inserted_between (all_listed (take k cs)) (listed c) (all_listed (drop (k + 1) cs)) e before after, ← h) (ap (λ (xs : List Entry). all_listed (take k cs) ++ (xs ++ all_listed (drop (k + 1) cs))) (sym (append-nil (listed new))))

    pub put_two : (other : EntryChunk) → listed new ++ listed other ≡ inserted e (listed c) → all_listed (insert (set cs k new) (k + 1) other) ≡ inserted e (all_listed cs)
    put_two other h = rw (all_set_insert cs k new other inside, around cs k c inside read, inserted_between (all_listed (take k cs)) (listed c) (all_listed (drop (k + 1) cs)) e before after, ← h) refl

pub others_fewer : (e : Entry) (es : List Entry) → length (others e es) ≤ length es
others_fewer e es = rw (length-filter (λ x. is_listed_before x e || is_listed_before e x) es) (count_by-le-length (λ x. is_listed_before x e || is_listed_before e x) es)
