-- One chunk after the other.
use Rattle.std.proofs.Common.{◌≡◌, ℕ, zero, suc, ◌+◌, ◌-◌, ◌*◌, ◌<◌, ◌≤◌, Bool, true, false, ◌||◌, List, [], ◌∷◌, ◌++◌, length, take, drop, get_or, Option, sym, ◌∙◌, ap, arith, ℤ}
use Rattle.std.specs.List.{AllByRecursion}
use Rattle.std.proofs.Math.Nat.{mul-le-mul_left}
use Rattle.std.proofs.lemmas.List.{append_assoc, drop_more}
use Rattle.adr_time.specs.declared.span.End.{End}
use Rattle.adr_model.specs.declared.entry.Entry.{Entry}
use Rattle.adr_index.specs.declared.chunk.EntryChunk.{EntryChunk}
use Rattle.adr_index.specs.declared.query.IndexQuery.{IndexQuery}
use Rattle.adr_index.specs.Chunks.{all_listed, listed}
use Rattle.adr_index.specs.Query.{any_late, hits, looks, reached, wanted_of}
use Rattle.adr_index.specs.Tree.{any_lasts, comes_after, greater_end, IsByStart}
use Rattle.adr_index.proofs.Grown.{lasts_append, later_after, parted}
use Rattle.adr_index.proofs.Searched.{found_left, grows, late_append, looks_both, looks_left, reached_left, reached_parts, starts_left, starts_right, wanted_append}
use Rattle.adr_index.proofs.Ordered.{or_grouped}

pub each_taken : (P : EntryChunk → Type 0) (m : ℕ) (cs : List EntryChunk) → AllByRecursion P cs → AllByRecursion P (take m cs)
each_taken P zero cs h = tt
each_taken P (suc m) [] h = tt
each_taken P (suc m) (c ∷ cs) h = (h.0, each_taken P m cs h.1)

pub each_left : (P : EntryChunk → Type 0) (m : ℕ) (cs : List EntryChunk) → AllByRecursion P cs → AllByRecursion P (drop m cs)
each_left P zero cs h = h
each_left P (suc m) [] h = tt
each_left P (suc m) (c ∷ cs) h = each_left P m cs h.1

module _ (cs : List EntryChunk) (i : ℕ) (c : EntryChunk) (inside : i < length cs) (read : c ≡ get_or cs i c) where
  here : drop i cs ≡ c ∷ drop (i + 1) cs
  here = drop_more cs i c inside ∙ ap (λ (d : EntryChunk). d ∷ drop (i + 1) cs) (sym read)

  pub whole : all_listed (drop i cs) ≡ listed c ++ all_listed (drop (i + 1) cs)
  whole = ap all_listed here

  pub each_here : (P : EntryChunk → Type 0) → AllByRecursion P (drop i cs) → P c
  each_here P h = (rw here at h).0

  pub each_rest : (P : EntryChunk → Type 0) → AllByRecursion P (drop i cs) → AllByRecursion P (drop (i + 1) cs)
  each_rest P h = (rw here at h).1

  pub length_here : length (drop i cs) ≡ 1 + length (drop (i + 1) cs)
  length_here = rw here (omega arith)

  module _ (q : IndexQuery) where
    pub order_here : IsByStart (all_listed (drop i cs)) → IsByStart (listed c)
    order_here o = starts_left (listed c) (all_listed (drop (i + 1) cs)) (rw whole at o)

    pub order_rest : IsByStart (all_listed (drop i cs)) → IsByStart (all_listed (drop (i + 1) cs))
    order_rest o = starts_right (listed c) (all_listed (drop (i + 1) cs)) (rw whole at o)

    pub cost_here : (depth : ℕ) → looks depth (listed c) q ≤ length (drop i cs) + 2 * depth * reached (all_listed (drop i cs)) q
    cost_here depth = rw (length_here, whole) (omega (arith, mul-le-mul_left (2 * depth) (reached_left (listed c) (all_listed (drop (i + 1) cs)) q)))

    pub cost_rest : (depth : ℕ) → any_late (listed c) q ≡ false → looks depth (listed c) q + (length (drop (i + 1) cs) + 2 * depth * reached (all_listed (drop (i + 1) cs)) q) ≤ length (drop i cs) + 2 * depth * reached (all_listed (drop i cs)) q
    cost_rest depth early = rw (length_here, whole) (omega (arith, grows (2 * depth) (reached (listed c) q) (reached (all_listed (drop (i + 1) cs)) q) (reached (listed c ++ all_listed (drop (i + 1) cs)) q) (reached_parts (listed c) (all_listed (drop (i + 1) cs)) q early)))

    pub found_here : IsByStart (all_listed (drop i cs)) → any_late (listed c) q ≡ true → hits (all_listed (drop i cs)) q ≡ hits (listed c) q
    found_here o late = found_left (all_listed (drop i cs)) (listed c) (all_listed (drop (i + 1) cs)) q whole o late

    pub found_rest : (w : ℕ → Bool) (found new all : List Entry) → found ++ wanted_of w (hits (all_listed (drop i cs)) q) ≡ all → new ≡ found ++ wanted_of w (hits (listed c) q) → new ++ wanted_of w (hits (all_listed (drop (i + 1) cs)) q) ≡ all
    found_rest w found new all h k =
        rw k (append_assoc found (wanted_of w (hits (listed c) q)) (wanted_of w (hits (all_listed (drop (i + 1) cs)) q))
        ∙ (ap (λ (xs : List Entry). found ++ xs) (sym (wanted_append w (listed c) (all_listed (drop (i + 1) cs)) q) ∙ ap (λ (es : List Entry). wanted_of w (hits es q)) (sym whole)) ∙ h))

    pub late_here : (all : Bool) → any_late (all_listed (drop i cs)) q ≡ all → any_late (listed c) q ≡ true → true ≡ all
    late_here all h late = rw late at first
      where
        first : (any_late (listed c) q || any_late (all_listed (drop (i + 1) cs)) q) ≡ all
        first = sym (late_append (listed c) (all_listed (drop (i + 1) cs)) q) ∙ (ap (λ (es : List Entry). any_late es q) (sym whole) ∙ h)

    pub late_rest_of : (all : Bool) → any_late (all_listed (drop i cs)) q ≡ all → any_late (listed c) q ≡ false → any_late (all_listed (drop (i + 1) cs)) q ≡ all
    late_rest_of all h early = rw early at first
      where
        first : (any_late (listed c) q || any_late (all_listed (drop (i + 1) cs)) q) ≡ all
        first = sym (late_append (listed c) (all_listed (drop (i + 1) cs)) q) ∙ (ap (λ (es : List Entry). any_late es q) (sym whole) ∙ h)

  pub lasts_rest : (t : ℤ) (g : Option End) (all : Bool) → (comes_after g t || any_lasts (all_listed (drop i cs)) t) ≡ all → comes_after c.end t ≡ any_lasts (listed c) t → (comes_after (greater_end g c.end) t || any_lasts (all_listed (drop (i + 1) cs)) t) ≡ all
  lasts_rest t g all h end =
      rw (later_after g c.end t, end) (sym (or_grouped (comes_after g t) (any_lasts (listed c) t) (any_lasts (all_listed (drop (i + 1) cs)) t)) ∙ (ap (λ (b : Bool). comes_after g t || b) (sym (lasts_append (listed c) (all_listed (drop (i + 1) cs)) t) ∙ ap (λ (es : List Entry). any_lasts es t) (sym whole)) ∙ h))

-- ---- looks at all levels

pub few_chunks_paid : (n k c r : ℕ) → 1 ≤ r → c ≤ 2 * n → 1 + c + 2 * k * r ≤ 1 + 2 * (n + k) * r
few_chunks_paid n k c r some h = omega (arith, mul-le-mul_left (2 * n) some)

-- ---- two halves

pub both_halves : (cs left right : List EntryChunk) (m : ℕ) → left ≡ take m cs → right ≡ drop m cs → all_listed cs ≡ all_listed left ++ all_listed right
both_halves cs left right m h k = rw (h, k) (parted listed m cs)

-- what a search of two halves pays
module _ (cs xs ys : List EntryChunk) (q : IndexQuery) (levels depth : ℕ) (whole : all_listed cs ≡ all_listed xs ++ all_listed ys) (level : 0 < levels) (last : any_lasts (all_listed cs) q.from ≡ true) where
  lower : levels + depth - 1 ≡ levels - 1 + depth
  lower = omega (arith, level)

  pub left_paid : 1 + looks (levels - 1 + depth) (all_listed xs) q ≤ looks (levels + depth) (all_listed cs) q
  left_paid = rw lower at (looks_left (all_listed cs) (all_listed xs) (all_listed ys) q whole (levels + depth) (omega (arith, level)) last)

  pub both_paid : any_late (all_listed xs) q ≡ false → 1 + looks (levels - 1 + depth) (all_listed xs) q + looks (levels - 1 + depth) (all_listed ys) q ≤ looks (levels + depth) (all_listed cs) q
  both_paid early = rw lower at (looks_both (all_listed cs) (all_listed xs) (all_listed ys) q whole (levels + depth) (omega (arith, level)) last early)
