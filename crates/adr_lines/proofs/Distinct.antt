-- Entries that stand once: as they are taken out and inserted, and how many there can be.
use Rattle.std.proofs.Common.{◌≡◌, inl, inr, ℕ, ◌+◌, ◌≤◌, ◌==◌, ◌||◌, Bool, true, false, not, cond, if◌then◌else◌, List, [], ◌∷◌, ◌++◌, length, filter, Some, refl, ap, sym, subst, ◌∙◌, eqb-true, arith}
use Rattle.std.specs.HashMap.{HashMap, IsUnchanged, UpdatesBy, get_by_text}
use Rattle.std.specs.List.{list_any}
use Rattle.std.specs.Prelude.{String, Result, Ok, Err, OnErr, OnOk}
use Rattle.std.specs.Str.{bytes_eq}
use Rattle.std.specs.String.{string_bytes, string_eq}
use Rattle.std.proofs.lemmas.Bool.{and_parts}
use Rattle.std.proofs.lemmas.Bool.Decides.{nat_tests}
use Rattle.std.proofs.lemmas.List.Filters.{length-filter_both, sum_by-filter_both}
use Rattle.std.proofs.lemmas.List.Sums.{length-filter, sum_by-append, sum_by-cons}
use Rattle.adr_model.specs.declared.entry.Entry.{Entry}
use Rattle.adr_model.specs.Entries.{is_listed_before}
use Rattle.adr_model.specs.Lists.{In}
use Rattle.adr_model.proofs.Lists.{filter_none, none_passes, passing_in, In-filter}
use Rattle.adr_index.specs.Index.{inserted, inserted_all, is_entry, others, others_all, AreDistinct, AreNew, Indexed}
use Rattle.adr_lines.specs.Distinct.{AreAllDistinct}
use Rattle.adr_lines.proofs.Put.{entries_at, entries_put, entries_there}

-- ---- taken out

fewer : (p q : Entry → Bool) (es : List Entry) → length (filter p (filter q es)) ≤ length (filter p es)
fewer p q [] = omega arith
fewer p q (e ∷ es) = by (q e) (p e) (fewer p q es)
  where
    more : (b : Bool) (xs ys : List Entry) → length xs ≤ length ys → length (cond b (e ∷ xs) xs) ≤ length (cond b (e ∷ ys) ys)
    more true xs ys h = omega (arith, h)
    more false xs ys h = h

    by : (b c : Bool) → length (filter p (filter q es)) ≤ length (filter p es)
        → length (filter p (cond b (e ∷ filter q es) (filter q es))) ≤ length (cond (p e) (e ∷ filter p es) (filter p es))
    by true c h = more (p e) (filter p (filter q es)) (filter p es) h
    by false c h = skip (p e)
      where
        skip : (d : Bool) → length (filter p (filter q es)) ≤ length (cond d (e ∷ filter p es) (filter p es))
        skip true = omega (arith, h)
        skip false = h

-- some of them stand once too
pub distinct_kept : (q : Entry → Bool) (es : List Entry) → AreDistinct es → AreDistinct (filter q es)
distinct_kept q es d w p = omega (arith, d w p, fewer (is_entry w p) q es)

pub distinct_others_all : (xs es : List Entry) → AreDistinct es → AreDistinct (others_all xs es)
distinct_others_all [] es d = d
distinct_others_all (x ∷ xs) es d = distinct_others_all xs (others x es) (distinct_kept (λ y. is_listed_before y x || is_listed_before x y) es d)

-- ---- inserted

pub one_more : (w p : ℕ) (e : Entry) (es : List Entry) → length (filter (is_entry w p) (inserted e es)) ≡ cond (is_entry w p e) 1 0 + length (filter (is_entry w p) es)
one_more w p e es =
    let first = filter (λ x. is_listed_before x e) es in
    let last = filter (λ x. not (is_listed_before x e)) es in
    let f : Entry → ℕ = λ x. cond (is_entry w p x) 1 0 in
    let all = length-filter (is_entry w p) (first ++ e ∷ last) in
    let parts = sum_by-append f first (e ∷ last) in
    let here = sum_by-cons f e last in
    let both = sum_by-filter_both (λ x. is_listed_before x e) (λ x. not (is_listed_before x e)) (λ x. refl) f es in
    let were = length-filter (is_entry w p) es in
    omega (arith, all, parts, here, both, were)

none_there : (w p : ℕ) (e : Entry) (es : List Entry) → is_entry w p e ≡ true → list_any (is_entry e.rank.written e.rank.place) es ≡ false → length (filter (is_entry w p) es) ≡ 0
none_there w p e es is none =
    let parts = and_parts (e.rank.written == w) (e.rank.place == p) is in
    let written : e.rank.written ≡ w = eqb-true e.rank.written w parts.0 in
    let place : e.rank.place ≡ p = eqb-true e.rank.place p parts.1 in
    let absent : list_any (is_entry w p) es ≡ false = subst (λ n. list_any (is_entry n p) es ≡ false) written (subst (λ m. list_any (is_entry e.rank.written m) es ≡ false) place none) in
    ap (λ (xs : List Entry). length xs) (filter_none (is_entry w p) es absent)

distinct_inserted : (e : Entry) (es : List Entry) → list_any (is_entry e.rank.written e.rank.place) es ≡ false → AreDistinct es → AreDistinct (inserted e es)
distinct_inserted e es none d w p = by (is_entry w p e) refl (one_more w p e es)
  where
    by : (b : Bool) → is_entry w p e ≡ b → length (filter (is_entry w p) (inserted e es)) ≡ cond b 1 0 + length (filter (is_entry w p) es) → length (filter (is_entry w p) (inserted e es)) ≤ 1
    by true is h = let no = none_there w p e es is none in omega (arith, h, no)
    by false is h = omega (arith, h, d w p)

pub distinct_inserted_all : (xs es : List Entry) → AreNew xs es → AreDistinct es → AreDistinct (inserted_all xs es)
distinct_inserted_all [] es new d = d
distinct_inserted_all (x ∷ xs) es new d = distinct_inserted_all xs (inserted x es) new.1 (distinct_inserted x es new.0 d)

-- ---- how many there can be

is_itself : (e : Entry) → is_entry e.rank.written e.rank.place e ≡ true
is_itself e = grind (arith, nat_tests)

one_is : (p : Entry → Bool) (xs : List Entry) (e : Entry) → In e xs → p e ≡ true → 1 ≤ length (filter p xs)
one_is p xs e m h = by (filter p xs) (In-filter p xs e m h)
  where
    by : (ys : List Entry) → In e ys → 1 ≤ length ys
    by [] n = absurd n
    by (y ∷ ys) n = omega arith

pub count_cons : (p : Entry → Bool) (e : Entry) (es : List Entry) → length (filter p (e ∷ es)) ≡ cond (p e) 1 0 + length (filter p es)
count_cons p e es = by (p e)
  where
    by : (b : Bool) → length (cond b (e ∷ filter p es) (filter p es)) ≡ cond b 1 0 + length (filter p es)
    by true = omega arith
    by false = omega arith

-- an entry that stands once is not among the others
none_left : (e : Entry) (es : List Entry) → AreDistinct (e ∷ es) → list_any (is_entry e.rank.written e.rank.place) es ≡ false
none_left e es d = by (list_any here es) refl
  where
    here : Entry → Bool
    here x = is_entry e.rank.written e.rank.place x

    by : (b : Bool) → list_any here es ≡ b → b ≡ false
    by false h = refl
    by true h =
        let found = passing_in here es h in
        let another = one_is here es found.0 found.1 found.2 in
        let two : length (filter here (e ∷ es)) ≡ 1 + length (filter here es) = count_cons here e es ∙ ap (λ b. cond b 1 0 + length (filter here es)) (is_itself e) in
        let once = d e.rank.written e.rank.place in
        absurd (omega (arith, another, two, once))

-- entries that stand once and are all in a list are no more than it has
pub no_more : (es xs : List Entry) → AreDistinct es → ((e : Entry) → In e es → In e xs) → length es ≤ length xs
no_more [] xs d held = omega arith
no_more (e ∷ es) xs d held =
    let here : Entry → Bool = λ x. is_entry e.rank.written e.rank.place x in
    let there : Entry → Bool = λ x. not (is_entry e.rank.written e.rank.place x) in
    let both = length-filter_both here there (λ x. refl) xs in
    let one = one_is here xs e (held e (inl refl)) (is_itself e) in
    let rest = no_more es (filter there xs) (λ w p. omega (arith, d w p, count_cons (is_entry w p) e es))
    (λ x m. In-filter there xs x (held x (inr m)) (ap not (none_passes here es (none_left e es d) x m))) in
    omega (arith, both, one, rest)

-- ---- an index in its place

-- an index whose entries stand once, put in its place
pub distinct_put : {Y S : Type 0} (m n : HashMap (String Y) Indexed S) (key : List ℕ) (v : Indexed) → UpdatesBy string_eq (λ k. bytes_eq key (string_bytes k)) m n (Some v)
    → AreAllDistinct m → AreDistinct v.entries → AreAllDistinct n
distinct_put m n key v u all own id = by (bytes_eq key id) (entries_put m n key v u id)
  where
    by : (b : Bool) → entries_at n id ≡ (if b then v.entries else entries_at m id) → AreDistinct (entries_at n id)
    by true is = subst (λ (es : List Entry). AreDistinct es) (sym is) own
    by false is = subst (λ (es : List Entry). AreDistinct es) (sym is) (all id)

pub distinct_there : {Y S : Type 0} (m : HashMap (String Y) Indexed S) (key : List ℕ) (i : Indexed) → get_by_text m key ≡ Some i → AreAllDistinct m → AreDistinct i.entries
distinct_there m key i there all = subst (λ (es : List Entry). AreDistinct es) (entries_there m key i there) (all key)

-- or put in where there is room, and else not
pub distinct_either : {Y S T E : Type 0} (m n : HashMap (String Y) Indexed S) (key : List ℕ) (v : Indexed) (r : Result T E)
    → OnOk r (UpdatesBy string_eq (λ k. bytes_eq key (string_bytes k)) m n (Some v)) → OnErr r (IsUnchanged m n)
    → AreAllDistinct m → AreDistinct v.entries → AreAllDistinct n
distinct_either m n key v (Ok x) updates same all own = distinct_put m n key v updates all own
distinct_either m n key v (Err x) updates same all own = λ id.
    let kept : entries_at n id ≡ entries_at m id = rw same refl in
    subst (λ (es : List Entry). AreDistinct es) (sym kept) (all id)
