-- What a search finds in two parts of a list, and how many looks it takes.
use Rattle.std.proofs.Common.{◌≡◌, ℕ, zero, suc, ◌+◌, ◌-◌, ◌*◌, ◌<◌, ◌≤◌, Bool, true, false, not, ◌&&◌, ◌||◌, List, [], ◌∷◌, ◌++◌, length, if◌then◌else◌, refl, sym, ◌∙◌, ap, subst, arith, ℤ, ◌≤ℤ◌, drop, get_or, inl, inr}
use Rattle.std.specs.List.{AllByRecursion}
use Rattle.std.proofs.Math.Nat.{mul-le-mul_left}
use Rattle.std.proofs.lemmas.Int.{ints}
use Rattle.std.proofs.lemmas.List.{append-nil, append_assoc, drop_more, length-append}
use Rattle.std.proofs.lemmas.List.Elements.{filter-append}
use Rattle.std.proofs.lemmas.Bool.{cases_Bool, or_parts, and_parts, false≢true, not-true}
use Rattle.adr_time.specs.declared.span.End.TheVariants.{At, Endless}
use Rattle.adr_model.specs.declared.entry.Entry.{Entry}
use Rattle.adr_index.specs.declared.query.IndexQuery.{IndexQuery}
use Rattle.adr_index.specs.declared.query.Latest.{Latest}
use Rattle.adr_index.specs.declared.query.Latest.TheVariants.{Before, By}
use Rattle.adr_index.specs.Query.{any_late, begins, lasts_past, is_hit, is_late, hits, if_hit, looks, reached, wanted_of}
use Rattle.adr_index.specs.Tree.{IsByStart, any_lasts}
use Rattle.adr_index.proofs.Ordered.{all_left, all_right, or_grouped}

-- ---- what is found

ended_missed : (e : Entry) (q : IndexQuery) → lasts_past e q.from ≡ false → is_hit q e ≡ false
ended_missed e q h = rw h

ended_early : (e : Entry) (q : IndexQuery) → lasts_past e q.from ≡ false → is_late q e ≡ false
ended_early e q h = rw h

late_missed : (e : Entry) (q : IndexQuery) → begins q.latest e.span.start ≡ false → is_hit q e ≡ false
late_missed e q h = rw h (neither (lasts_past e q.from))
  where
    neither : (x : Bool) → (x && false) ≡ false
    neither true = refl
    neither false = refl

pub none_last : (es : List Entry) (q : IndexQuery) → any_lasts es q.from ≡ false → hits es q ≡ []
none_last [] q h = refl
none_last (e ∷ es) q h =
    let parts = or_parts (lasts_past e q.from) (any_lasts es q.from) h in
    rw (ended_missed e q parts.0) (none_last es q parts.1)

pub none_late_last : (es : List Entry) (q : IndexQuery) → any_lasts es q.from ≡ false → any_late es q ≡ false
none_late_last [] q h = refl
none_late_last (e ∷ es) q h =
    let parts = or_parts (lasts_past e q.from) (any_lasts es q.from) h in
    rw (ended_early e q parts.0) (none_late_last es q parts.1)

still_late : (l : Latest) (a b : ℤ) → a ≤ℤ b → begins l a ≡ false → begins l b ≡ false
still_late (Before (At v)) a b h k = grind (arith, ints)
still_late (Before Endless) a b h k = k
still_late (By u) a b h k = grind (arith, ints)

none_begin : (es : List Entry) (a : ℤ) (q : IndexQuery) → AllByRecursion (λ f. a ≤ℤ f.span.start) es → begins q.latest a ≡ false → hits es q ≡ []
none_begin [] a q h k = refl
none_begin (e ∷ es) a q h k = rw (late_missed e q (still_late q.latest a e.span.start h.0 k)) (none_begin es a q h.1 k)

pub starts_left : (xs ys : List Entry) → IsByStart (xs ++ ys) → IsByStart xs
starts_left [] ys h = tt
starts_left (x ∷ xs) ys h = (all_left (λ f. x.span.start ≤ℤ f.span.start) xs ys h.0, starts_left xs ys h.1)

pub starts_right : (xs ys : List Entry) → IsByStart (xs ++ ys) → IsByStart ys
starts_right [] ys h = h
starts_right (x ∷ xs) ys h = starts_right xs ys h.1

-- after one that starts too late nothing is found
pub late_rest : (xs ys : List Entry) (q : IndexQuery) → IsByStart (xs ++ ys) → any_late xs q ≡ true → hits ys q ≡ []
late_rest [] ys q o h = absurd (false≢true h)
late_rest (x ∷ xs) ys q o h = elim (cases_Bool (is_late q x)) [
  | inl late ↦ none_begin ys x.span.start q (all_right (λ f. x.span.start ≤ℤ f.span.start) xs ys o.0) (not-true (begins q.latest x.span.start) (and_parts (lasts_past x q.from) (not (begins q.latest x.span.start)) late).1)
  | inr early ↦ late_rest xs ys q o.1 (rw early at h)
]

pub hits_append : (xs ys : List Entry) (q : IndexQuery) → hits (xs ++ ys) q ≡ hits xs q ++ hits ys q
hits_append xs ys q = filter-append (λ (e : Entry). is_hit q e) xs ys

pub all_wanted : (es : List Entry) → wanted_of (λ _. true) es ≡ es
all_wanted [] = refl
all_wanted (e ∷ es) = ap (λ (fs : List Entry). e ∷ fs) (all_wanted es)

pub wanted_append : (w : ℕ → Bool) (xs ys : List Entry) (q : IndexQuery) → wanted_of w (hits (xs ++ ys) q) ≡ wanted_of w (hits xs q) ++ wanted_of w (hits ys q)
wanted_append w xs ys q = ap (wanted_of w) (hits_append xs ys q) ∙ filter-append (λ (e : Entry). w e.rank.written) (hits xs q) (hits ys q)

pub late_append : (xs ys : List Entry) (q : IndexQuery) → any_late (xs ++ ys) q ≡ (any_late xs q || any_late ys q)
late_append [] ys q = refl
late_append (x ∷ xs) ys q = ap (λ (b : Bool). is_late q x || b) (late_append xs ys q) ∙ or_grouped (is_late q x) (any_late xs q) (any_late ys q)

-- ---- how many a search comes to

pub reached_some : (es : List Entry) (q : IndexQuery) → any_lasts es q.from ≡ true → 1 ≤ reached es q
reached_some [] q h = absurd (false≢true h)
reached_some (e ∷ es) q h = either (lasts_past e q.from) (begins q.latest e.span.start) h (reached_some es q)
  where
    either : (l b : Bool) → (l || any_lasts es q.from) ≡ true → (any_lasts es q.from ≡ true → 1 ≤ reached es q) → 1 ≤ length (if l && b then e ∷ hits es q else hits es q) + (if (l && not b) || any_late es q then 1 else 0)
    either true true h f = omega arith
    either true false h f = omega arith
    either false b h f = f h

pub reached_parts : (xs ys : List Entry) (q : IndexQuery) → any_late xs q ≡ false → reached xs q + reached ys q ≤ reached (xs ++ ys) q
reached_parts xs ys q h = rw (late_append xs ys q, h, hits_append xs ys q, length-append (hits xs q) (hits ys q)) (omega arith)

pub reached_left : (xs ys : List Entry) (q : IndexQuery) → reached xs q ≤ reached (xs ++ ys) q
reached_left xs ys q = rw (late_append xs ys q, hits_append xs ys q, length-append (hits xs q) (hits ys q)) (more (any_late xs q) (any_late ys q))
  where
    more : (x y : Bool) → length (hits xs q) + (if x then 1 else 0) ≤ (length (hits xs q) + length (hits ys q)) + (if x || y then 1 else 0)
    more true y = omega arith
    more false true = omega arith
    more false false = omega arith

-- ---- looks

pub grows : (k l r m : ℕ) → l + r ≤ m → k * l + k * r ≤ k * m
grows k l r m h = omega (arith, mul-le-mul_left k h)

-- a level's two looks pay for both halves
pub both_paid : (n l r w : ℕ) → 0 < n → l + r ≤ w → 1 ≤ w → 1 + (1 + 2 * (n - 1) * l) + (1 + 2 * (n - 1) * r) ≤ 1 + 2 * n * w
both_paid zero l r w p h k = absurd (omega arith)
both_paid (suc n) l r w p h k = let e : suc n - 1 ≡ n = omega arith in rw e (omega (arith, grows (2 * n) l r w h))

-- and for one
pub one_paid : (n l w : ℕ) → 0 < n → l ≤ w → 1 ≤ w → 1 + (1 + 2 * (n - 1) * l) ≤ 1 + 2 * n * w
one_paid n l w p h k = omega (arith, both_paid n l 0 w p (omega arith) k)

-- three levels pay for six entries, two for four, and one for two
pub few_paid : (n c w : ℕ) → 1 ≤ w → c ≤ 2 * n → 1 + c ≤ 1 + 2 * n * w
few_paid n c w k h = omega (arith, mul-le-mul_left (2 * n) k)

-- ---- one visit to a list of two parts

module _ (es xs ys : List Entry) (q : IndexQuery) (whole : es ≡ xs ++ ys) where
  pub found_left : IsByStart es → any_late xs q ≡ true → hits es q ≡ hits xs q
  found_left o late = rw (whole, hits_append xs ys q, late_rest xs ys q (rw whole at o) late) (append-nil (hits xs q))

  pub looks_left : (n : ℕ) → 0 < n → any_lasts es q.from ≡ true → 1 + looks (n - 1) xs q ≤ looks n es q
  looks_left n level last = one_paid n (reached xs q) (reached es q) level (subst (λ (zs : List Entry). reached xs q ≤ reached zs q) (sym whole) (reached_left xs ys q)) (reached_some es q last)

  pub looks_both : (n : ℕ) → 0 < n → any_lasts es q.from ≡ true → any_late xs q ≡ false → 1 + looks (n - 1) xs q + looks (n - 1) ys q ≤ looks n es q
  looks_both n level last early = both_paid n (reached xs q) (reached ys q) (reached es q) level (subst (λ (zs : List Entry). reached xs q + reached ys q ≤ reached zs q) (sym whole) (reached_parts xs ys q early)) (reached_some es q last)

pub looks_few : (n c : ℕ) (es : List Entry) (q : IndexQuery) → any_lasts es q.from ≡ true → c ≤ 2 * n → 1 + c ≤ looks n es q
looks_few n c es q last h = few_paid n c (reached es q) (reached_some es q last) h

-- ---- one step over a few

module _ (es : List Entry) (i : ℕ) (x : Entry) (q : IndexQuery) (inside : i < length es) (read : x ≡ get_or es i x) where
  here : drop i es ≡ x ∷ drop (i + 1) es
  here = drop_more es i x inside ∙ ap (λ (y : Entry). y ∷ drop (i + 1) es) (sym read)

  pub stopped : IsByStart (drop i es) → is_late q x ≡ true → hits (drop i es) q ≡ []
  stopped o late =
      let begun = not-true (begins q.latest x.span.start) (and_parts (lasts_past x q.from) (not (begins q.latest x.span.start)) late).1 in
      rw (here, late_missed x q begun) (none_begin (drop (i + 1) es) x.span.start q (rw here at o).0 begun)

  pub stepped_found : (w : ℕ → Bool) (found new all : List Entry) → found ++ wanted_of w (hits (drop i es) q) ≡ all → new ≡ found ++ wanted_of w (if_hit x q) → new ++ wanted_of w (hits (drop (i + 1) es) q) ≡ all
  stepped_found w found new all h k = rw k (append_assoc found (wanted_of w (if_hit x q)) (wanted_of w (hits (drop (i + 1) es) q)) ∙ (ap (λ (zs : List Entry). found ++ zs) (sym (either (is_hit q x))) ∙ (rw here at h)))
    where
      either : (b : Bool) → wanted_of w (if b then x ∷ hits (drop (i + 1) es) q else hits (drop (i + 1) es) q) ≡ wanted_of w (if b then x ∷ [] else []) ++ wanted_of w (hits (drop (i + 1) es) q)
      either true = filter-append (λ (e : Entry). w e.rank.written) (x ∷ []) (hits (drop (i + 1) es) q)
      either false = refl

  pub stepped_late : (all : Bool) → any_late (drop i es) q ≡ all → is_late q x ≡ false → any_late (drop (i + 1) es) q ≡ all
  stepped_late all h early =
      let first : (is_late q x || any_late (drop (i + 1) es) q) ≡ all = rw here at h in
      rw early at first

  pub stepped_order : IsByStart (drop i es) → IsByStart (drop (i + 1) es)
  stepped_order o = (rw here at o).1
