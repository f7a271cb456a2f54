-- Entries in order.
use Rattle.std.proofs.Common.{◌≡◌, ℕ, zero, suc, ◌+◌, ◌-◌, ◌<◌, ◌≤◌, Bool, true, false, not, ◌&&◌, ◌||◌, ◌==◌, nat_lt, cond, List, [], ◌∷◌, ◌++◌, length, filter, take, drop, slice_index_or, refl, sym, ◌∙◌, ap, arith, ℤ, ◌≤ℤ◌, int_lt, inl, inr}
use Rattle.std.specs.Ordering.{int_eq}
use Rattle.std.specs.List.{AllByRecursion, insert, list_any}
use Rattle.std.proofs.lemmas.Int.{ints}
use Rattle.std.proofs.lemmas.List.{append-nil, append_assoc, length-append, take-append-drop}
use Rattle.std.proofs.lemmas.List.Elements.{filter-append}
use Rattle.std.proofs.lemmas.Bool.{cases_Bool, or_cases, or_parts, and_parts, false≢true, not-true}
use Rattle.std.proofs.lemmas.Bool.Decides.{nat_tests, Decides-int_eq}
use Rattle.adr_model.specs.declared.entry.Entry.{Entry}
use Rattle.adr_model.specs.Entries.{is_listed_before, IsListed}
use Rattle.adr_index.specs.Tree.{IsByStart}
use Rattle.adr_index.specs.Index.{inserted, is_entry, others, IsOrdered}

-- ---- the order

or_true : (x : Bool) → (x || true) ≡ true
or_true true = refl
or_true false = refl

pub or_grouped : (a b c : Bool) → (a || (b || c)) ≡ ((a || b) || c)
or_grouped true b c = refl
or_grouped false b c = refl

-- the order of the numbers where the starts are equal
abbrev later_write : Entry → Entry → Bool
later_write a b = nat_lt a.rank.written b.rank.written || ((a.rank.written == b.rank.written) && nat_lt a.rank.place b.rank.place)

writes_trans : (a b c : Entry) → later_write a b ≡ true → later_write b c ≡ true → later_write a c ≡ true
writes_trans a b c h k = grind (arith, nat_tests)

writes_total : (a b : Entry) → later_write a b ≡ false → is_entry b.rank.written b.rank.place a ≡ false → later_write b a ≡ true
writes_total a b h k = grind (arith, nat_tests)

starts_trans : (s t u : ℤ) (x y z : Bool) → (x ≡ true → y ≡ true → z ≡ true) → (int_lt s t || (int_eq s t && x)) ≡ true → (int_lt t u || (int_eq t u && y)) ≡ true → (int_lt s u || (int_eq s u && z)) ≡ true
starts_trans s t u x y z f h k = elim (or_cases (int_lt s t) (int_eq s t && x) h) [
  | inl first ↦ elim (or_cases (int_lt t u) (int_eq t u && y) k) [
    | inl second ↦ below s t u z first second
    | inr second ↦ let same = (Decides-int_eq t u).0 (and_parts (int_eq t u) y second).0 in rw (← same, first)
  ]
  | inr first ↦
      let same = (Decides-int_eq s t).0 (and_parts (int_eq s t) x first).0 in
      elim (or_cases (int_lt t u) (int_eq t u && y) k) [
        | inl second ↦ rw (same, second)
        | inr second ↦
            let too = (Decides-int_eq t u).0 (and_parts (int_eq t u) y second).0 in
            rw (same, too, f (and_parts (int_eq s t) x first).1 (and_parts (int_eq t u) y second).1, (Decides-int_eq u u).1 refl) (or_true (int_lt u u))
      ]
]
  where
    below : (s t u : ℤ) (z : Bool) → int_lt s t ≡ true → int_lt t u ≡ true → (int_lt s u || (int_eq s u && z)) ≡ true
    below s t u z h k = let early : int_lt s u ≡ true = grind (arith, ints) in rw early

pub listed_trans : (a b c : Entry) → is_listed_before a b ≡ true → is_listed_before b c ≡ true → is_listed_before a c ≡ true
listed_trans a b c h k = starts_trans a.span.start b.span.start c.span.start (later_write a b) (later_write b c) (later_write a c) (writes_trans a b c) h k

starts_total : (s t : ℤ) (x y : Bool) → (x ≡ false → y ≡ true) → (int_lt s t || (int_eq s t && x)) ≡ false → (int_lt t s || (int_eq t s && y)) ≡ true
starts_total s t x y f h =
    let parts = or_parts (int_lt s t) (int_eq s t && x) h in
    elim (cases_Bool (int_eq s t)) [
      | inl same ↦
          let equal = (Decides-int_eq s t).0 same in
          let behind : x ≡ false = rw same at parts.1 in
          rw (equal, f behind, (Decides-int_eq t t).1 refl) (or_true (int_lt t t))
      | inr differ ↦ rw (after s t parts.0 differ)
    ]
  where
    after : (s t : ℤ) → int_lt s t ≡ false → int_eq s t ≡ false → int_lt t s ≡ true
    after s t h k = grind (arith, ints, Decides-int_eq)

pub listed_total : (a b : Entry) → is_listed_before a b ≡ false → is_entry b.rank.written b.rank.place a ≡ false → is_listed_before b a ≡ true
listed_total a b h k = starts_total a.span.start b.span.start (later_write a b) (later_write b a) (λ q. writes_total a b q k) h

listed_starts : (a b : Entry) → is_listed_before a b ≡ true → a.span.start ≤ℤ b.span.start
listed_starts a b h = starts a.span.start b.span.start (later_write a b) h
  where
    below : (s t : ℤ) → int_lt s t ≡ true → s ≤ℤ t
    below s t h = grind (arith, ints)

    starts : (s t : ℤ) (x : Bool) → (int_lt s t || (int_eq s t && x)) ≡ true → s ≤ℤ t
    starts s t x h = elim (or_cases (int_lt s t) (int_eq s t && x) h) [
      | inl lt ↦ below s t lt
      | inr same ↦ rw ((Decides-int_eq s t).0 (and_parts (int_eq s t) x same).0) (omega (arith, ints))
    ]

pub all_more : (P Q : Entry → Type 0) → ((f : Entry) → P f → Q f) → (es : List Entry) → AllByRecursion P es → AllByRecursion Q es
all_more P Q f [] h = tt
all_more P Q f (e ∷ es) h = (f e h.0, all_more P Q f es h.1)

-- what is in order is so by its starts
pub ordered_starts : (es : List Entry) → IsOrdered es → IsByStart es
ordered_starts [] o = tt
ordered_starts (e ∷ es) o = (all_more (λ f. is_listed_before e f ≡ true) (λ f. e.span.start ≤ℤ f.span.start) (listed_starts e) es o.0, ordered_starts es o.1)

pub ordered_listed : (es : List Entry) → IsOrdered es → IsListed es
ordered_listed [] o k d lt = absurd (omega arith)
ordered_listed (e ∷ []) o k d lt = absurd (omega arith)
ordered_listed (e ∷ (f ∷ es)) o zero d lt = let next : zero + 1 ≡ suc zero = omega arith in rw next o.0.0
ordered_listed (e ∷ (f ∷ es)) o (suc k) d lt = let next : suc k + 1 ≡ suc (k + 1) = omega arith in rw next (ordered_listed (f ∷ es) o.1 k d (omega arith))

-- ---- an entry more, an entry less

pub all_filter : (P : Entry → Type 0) (p : Entry → Bool) (es : List Entry) → AllByRecursion P es → AllByRecursion P (filter p es)
all_filter P p [] h = tt
all_filter P p (e ∷ es) h = either (p e) (all_filter P p es h.1)
  where
    either : (x : Bool) → AllByRecursion P (filter p es) → AllByRecursion P (cond x (e ∷ filter p es) (filter p es))
    either true rest = (h.0, rest)
    either false rest = rest

pub ordered_filter : (p : Entry → Bool) (es : List Entry) → IsOrdered es → IsOrdered (filter p es)
ordered_filter p [] o = tt
ordered_filter p (e ∷ es) o = either (p e) (ordered_filter p es o.1)
  where
    either : (x : Bool) → IsOrdered (filter p es) → IsOrdered (cond x (e ∷ filter p es) (filter p es))
    either true rest = (all_filter (λ f. is_listed_before e f ≡ true) p es o.0, rest)
    either false rest = rest

-- what the filter keeps passes the test
all_kept : (p : Entry → Bool) (P : Entry → Type 0) (es : List Entry) → ((f : Entry) → p f ≡ true → P f) → AllByRecursion P (filter p es)
all_kept p P [] f = tt
all_kept p P (e ∷ es) f = either (p e) refl (all_kept p P es f)
  where
    either : (x : Bool) → p e ≡ x → AllByRecursion P (filter p es) → AllByRecursion P (cond x (e ∷ filter p es) (filter p es))
    either true h rest = (f e h, rest)
    either false h rest = rest

pub all_both : (P Q R : Entry → Type 0) → ((f : Entry) → P f → Q f → R f) → (es : List Entry) → AllByRecursion P es → AllByRecursion Q es → AllByRecursion R es
all_both P Q R f [] h k = tt
all_both P Q R f (e ∷ es) h k = (f e h.0 k.0, all_both P Q R f es h.1 k.1)

all_append : (P : Entry → Type 0) (xs : List Entry) (e : Entry) (ys : List Entry) → AllByRecursion P xs → P e → AllByRecursion P ys → AllByRecursion P (xs ++ e ∷ ys)
all_append P [] e ys h p k = (p, k)
all_append P (x ∷ xs) e ys h p k = (h.0, all_append P xs e ys h.1 p k)

pub ordered_middle : (xs : List Entry) (e : Entry) (ys : List Entry) → IsOrdered xs → AllByRecursion (λ f. is_listed_before f e ≡ true) xs → AllByRecursion (λ f. is_listed_before e f ≡ true) ys → IsOrdered ys → IsOrdered (xs ++ e ∷ ys)
ordered_middle [] e ys o b a p = (a, p)
ordered_middle (x ∷ xs) e ys o b a p = (
  all_append (λ f. is_listed_before x f ≡ true) xs e ys o.0 b.0 (all_more (λ f. is_listed_before e f ≡ true) (λ f. is_listed_before x f ≡ true) (λ f h. listed_trans x e f b.0 h) ys a),
  ordered_middle xs e ys o.1 b.1 a p,
)

none_such : (p : Entry → Bool) (es : List Entry) → list_any p es ≡ false → AllByRecursion (λ f. p f ≡ false) es
none_such p [] h = tt
none_such p (e ∷ es) h = let parts = or_parts (p e) (list_any p es) h in (parts.0, none_such p es parts.1)

pub ordered_inserted : (e : Entry) (es : List Entry) → IsOrdered es → list_any (is_entry e.rank.written e.rank.place) es ≡ false → IsOrdered (inserted e es)
ordered_inserted e es o new =
    ordered_middle (filter (λ x. is_listed_before x e) es) e (filter (λ x. not (is_listed_before x e)) es)
    (ordered_filter (λ x. is_listed_before x e) es o)
    (all_kept (λ x. is_listed_before x e) (λ f. is_listed_before f e ≡ true) es (λ f h. h))
    (all_both (λ f. is_listed_before f e ≡ false) (λ f. is_entry e.rank.written e.rank.place f ≡ false) (λ f. is_listed_before e f ≡ true) (λ f h k. listed_total f e h k) (filter (λ x. not (is_listed_before x e)) es)
    (all_kept (λ x. not (is_listed_before x e)) (λ f. is_listed_before f e ≡ false) es (λ f h. not-true (is_listed_before f e) h))
    (all_filter (λ f. is_entry e.rank.written e.rank.place f ≡ false) (λ x. not (is_listed_before x e)) es (none_such (is_entry e.rank.written e.rank.place) es new)))
    (ordered_filter (λ x. not (is_listed_before x e)) es o)

-- ---- the place of a new entry

-- where one does not come before an entry, no later one does
none_later : (e : Entry) (es : List Entry) (i : ℕ) → IsOrdered es → i < length es → ((d : Entry) → is_listed_before (slice_index_or es i d) e ≡ false) → AllByRecursion (λ x. is_listed_before x e ≡ false) (drop i es)
none_later e [] i o lt h = absurd (omega arith)
none_later e (x ∷ xs) zero o lt h = (h x, all_more (λ f. is_listed_before x f ≡ true) (λ f. is_listed_before f e ≡ false) (λ f k. either f k (is_listed_before f e) refl) xs o.0)
  where
    either : (f : Entry) → is_listed_before x f ≡ true → (b : Bool) → is_listed_before f e ≡ b → is_listed_before f e ≡ false
    either f k true earlier = absurd (false≢true (sym (h x) ∙ listed_trans x f e k earlier))
    either f k false later = later
none_later e (x ∷ xs) (suc i) o lt h = none_later e xs i o.1 (omega arith) h

pub past_place : (e : Entry) (es : List Entry) (i : ℕ) → IsOrdered es → i ≤ length es → (i < length es → (d : Entry) → is_listed_before (slice_index_or es i d) e ≡ false) → AllByRecursion (λ x. is_listed_before x e ≡ false) (drop i es)
past_place e [] zero o le h = tt
past_place e [] (suc i) o le h = tt
past_place e (x ∷ xs) zero o le h = none_later e (x ∷ xs) zero o (omega arith) (h (omega arith))
past_place e (x ∷ xs) (suc i) o le h = past_place e xs i o.1 (omega arith) (λ lt. h (omega (arith, lt)))

-- what stands before an entry that comes before the new one comes before it too
pub before_place : (e : Entry) (es : List Entry) (i : ℕ) → IsOrdered es → i < length es → ((d : Entry) → is_listed_before (slice_index_or es i d) e ≡ true) → AllByRecursion (λ x. is_listed_before x e ≡ true) (take (suc i) es)
before_place e [] i o lt h = absurd (omega (arith, lt))
before_place e (x ∷ xs) zero o lt h = (h x, tt)
before_place e (x ∷ []) (suc i) o lt h = absurd (omega (arith, lt))
before_place e (x ∷ (y ∷ ys)) (suc i) o lt h = let rest = before_place e (y ∷ ys) i o.1 (omega (arith, lt)) h in (listed_trans x y e o.0.0 rest.0, rest)

-- ---- entries between others

starts_asym : (s t : ℤ) (x y : Bool) → (x ≡ true → y ≡ false) → (int_lt s t || (int_eq s t && x)) ≡ true → (int_lt t s || (int_eq t s && y)) ≡ false
starts_asym s t x y f h = elim (or_cases (int_lt s t) (int_eq s t && x) h) [
  | inl first ↦ let behind : int_lt t s ≡ false = grind (arith, ints) in let differ : int_eq t s ≡ false = grind (arith, ints, Decides-int_eq) in none_of (int_lt t s) (int_eq t s) y behind differ
  | inr same ↦
      neither (int_lt t s) (int_eq t s) y (not_below s t ((Decides-int_eq s t).0 (and_parts (int_eq s t) x same).0)) (f (and_parts (int_eq s t) x same).1)
]
  where
    none_of : (a b y : Bool) → a ≡ false → b ≡ false → (a || (b && y)) ≡ false
    none_of true b y h k = h
    none_of false true y h k = absurd (false≢true (sym k))
    none_of false false y h k = refl

    not_below : (s t : ℤ) → s ≡ t → int_lt t s ≡ false
    not_below s t h = grind (arith, ints)

    neither : (a b y : Bool) → a ≡ false → y ≡ false → (a || (b && y)) ≡ false
    neither true b y h k = h
    neither false true y h k = k
    neither false false y h k = refl

starts_after : (s t u : ℤ) (x y w : Bool) → (x ≡ false → y ≡ true → w ≡ true) → (int_lt s t || (int_eq s t && x)) ≡ false → (int_lt s u || (int_eq s u && y)) ≡ true → (int_lt t u || (int_eq t u && w)) ≡ true
starts_after s t u x y w f h k =
    let parts = or_parts (int_lt s t) (int_eq s t && x) h in
    elim (cases_Bool (int_eq s t)) [
      | inl same ↦
          let equal = (Decides-int_eq s t).0 same in
          let behind : x ≡ false = rw same at parts.1 in
          elim (or_cases (int_lt s u) (int_eq s u && y) k) [
            | inl first ↦ rw (← equal, first)
            | inr level ↦
                let too = (Decides-int_eq s u).0 (and_parts (int_eq s u) y level).0 in
                rw (← equal, ← too, f behind (and_parts (int_eq s u) y level).1, (Decides-int_eq s s).1 refl) (or_true (int_lt s s))
          ]
      | inr differ ↦ elim (or_cases (int_lt s u) (int_eq s u && y) k) [
        | inl first ↦ rw (over s t u parts.0 first)
        | inr level ↦ rw (← (Decides-int_eq s u).0 (and_parts (int_eq s u) y level).0, under s t parts.0 differ)
      ]
    ]
  where
    over : (s t u : ℤ) → int_lt s t ≡ false → int_lt s u ≡ true → int_lt t u ≡ true
    over s t u h k = grind (arith, ints)

    under : (s t : ℤ) → int_lt s t ≡ false → int_eq s t ≡ false → int_lt t s ≡ true
    under s t h k = grind (arith, ints, Decides-int_eq)

writes_asym : (a b : Entry) → later_write a b ≡ true → later_write b a ≡ false
writes_asym a b h = grind (arith, nat_tests)

writes_after : (a b c : Entry) → later_write a b ≡ false → later_write a c ≡ true → later_write b c ≡ true
writes_after a b c h k = grind (arith, nat_tests)

pub listed_asym : (a b : Entry) → is_listed_before a b ≡ true → is_listed_before b a ≡ false
listed_asym a b h = starts_asym a.span.start b.span.start (later_write a b) (later_write b a) (writes_asym a b) h

-- what is not after an entry stands before those after it
pub listed_after : (a b c : Entry) → is_listed_before a b ≡ false → is_listed_before a c ≡ true → is_listed_before b c ≡ true
listed_after a b c h k = starts_after a.span.start b.span.start c.span.start (later_write a b) (later_write a c) (later_write b c) (writes_after a b c) h k

pub all_right : (P : Entry → Type 0) (xs ys : List Entry) → AllByRecursion P (xs ++ ys) → AllByRecursion P ys
all_right P [] ys h = h
all_right P (x ∷ xs) ys h = all_right P xs ys h.1

pub all_left : (P : Entry → Type 0) (xs ys : List Entry) → AllByRecursion P (xs ++ ys) → AllByRecursion P xs
all_left P [] ys h = tt
all_left P (x ∷ xs) ys h = (h.0, all_left P xs ys h.1)

pub all_joined : (P : Entry → Type 0) (xs ys : List Entry) → AllByRecursion P xs → AllByRecursion P ys → AllByRecursion P (xs ++ ys)
all_joined P [] ys h k = k
all_joined P (x ∷ xs) ys h k = (h.0, all_joined P xs ys h.1 k)

pub ordered_left : (xs ys : List Entry) → IsOrdered (xs ++ ys) → IsOrdered xs
ordered_left [] ys o = tt
ordered_left (x ∷ xs) ys o = (all_left (λ f. is_listed_before x f ≡ true) xs ys o.0, ordered_left xs ys o.1)

pub ordered_right : (xs ys : List Entry) → IsOrdered (xs ++ ys) → IsOrdered ys
ordered_right [] ys o = o
ordered_right (x ∷ xs) ys o = ordered_right xs ys o.1

pub ordered_later : (n : ℕ) (es : List Entry) → IsOrdered es → IsOrdered (drop n es)
ordered_later n es o = ordered_right (take n es) (drop n es) (rw (take-append-drop n es) o)

pub ordered_first : (n : ℕ) (es : List Entry) → IsOrdered es → IsOrdered (take n es)
ordered_first n es o = ordered_left (take n es) (drop n es) (rw (take-append-drop n es) o)

-- each of the first part comes before the second
across : (xs ys : List Entry) (j : ℕ) (x : Entry) → IsOrdered (xs ++ ys) → j < length xs → x ≡ slice_index_or xs j x → AllByRecursion (λ f. is_listed_before x f ≡ true) ys
across [] ys j x o lt read = absurd (omega arith)
across (z ∷ zs) ys zero x o lt read = rw read (all_right (λ f. is_listed_before z f ≡ true) zs ys o.0)
across (z ∷ zs) ys (suc j) x o lt read = across zs ys j x o.1 (omega arith) read

-- where the last comes before an entry, so do all
pub up_to_last : (xs : List Entry) (j : ℕ) (x e : Entry) → IsOrdered xs → length xs ≡ suc j → x ≡ slice_index_or xs j x → is_listed_before x e ≡ true → AllByRecursion (λ f. is_listed_before f e ≡ true) xs
up_to_last [] j x e o l read h = absurd (omega arith)
up_to_last (z ∷ []) zero x e o l read h = (rw (← read) h, tt)
up_to_last (z ∷ []) (suc j) x e o l read h = absurd (omega arith)
up_to_last (z ∷ (y ∷ ys)) zero x e o l read h = absurd (omega arith)
up_to_last (z ∷ (y ∷ ys)) (suc j) x e o l read h =
    let rest = up_to_last (y ∷ ys) j x e o.1 (omega arith) read h in
    (listed_trans z y e o.0.0 rest.0, rest)

-- and all before these
up_to_part : (xs ys : List Entry) (e : Entry) → IsOrdered (xs ++ ys) → 0 < length ys → AllByRecursion (λ f. is_listed_before f e ≡ true) ys → AllByRecursion (λ f. is_listed_before f e ≡ true) xs
up_to_part [] ys e o some h = tt
up_to_part (x ∷ xs) [] e o some h = absurd (omega arith)
up_to_part (x ∷ xs) (y ∷ ys) e o some h = (listed_trans x y e (all_right (λ f. is_listed_before x f ≡ true) xs (y ∷ ys) o.0).0 h.0, up_to_part xs (y ∷ ys) e o.1 some h)

module _ (front middle back : List Entry) (x e : Entry) (o : IsOrdered (front ++ (middle ++ back))) (some : 0 < length middle) (read : x ≡ slice_index_or middle (length middle - 1) x) where
  pub all_before : is_listed_before x e ≡ true → AllByRecursion (λ f. is_listed_before f e ≡ true) (front ++ middle)
  all_before h =
      let here = up_to_last middle (length middle - 1) x e (ordered_left middle back (ordered_right front (middle ++ back) o)) (omega arith) read h in
      all_joined (λ f. is_listed_before f e ≡ true) front middle (up_to_part front middle e (ordered_left (front ++ middle) back (rw (append_assoc front middle back) o)) some here) here

  pub all_after : is_listed_before x e ≡ false → AllByRecursion (λ f. is_listed_before e f ≡ true) back
  all_after h = all_more (λ f. is_listed_before x f ≡ true) (λ f. is_listed_before e f ≡ true) (λ f k. listed_after x e f h k) back (across middle back (length middle - 1) x (ordered_right front (middle ++ back) o) (omega arith) read)

-- ---- edits between what comes before and what comes after

pub filter_all : (p : Entry → Bool) (es : List Entry) → AllByRecursion (λ f. p f ≡ true) es → filter p es ≡ es
filter_all p [] h = refl
filter_all p (e ∷ es) h = rw h.0 (ap (λ (xs : List Entry). e ∷ xs) (filter_all p es h.1))

pub filter_out : (p : Entry → Bool) (es : List Entry) → AllByRecursion (λ f. p f ≡ false) es → filter p es ≡ []
filter_out p [] h = refl
filter_out p (e ∷ es) h = rw h.0 (filter_out p es h.1)

-- an entry put between those that come before it and the others
pub place_found : (e : Entry) (es : List Entry) (i : ℕ) → i ≤ length es → AllByRecursion (λ x. is_listed_before x e ≡ true) (take i es) → AllByRecursion (λ x. is_listed_before x e ≡ false) (drop i es) → insert es i e ≡ inserted e es
place_found e es zero le f r = rw (filter_out (λ x. is_listed_before x e) es r, filter_all (λ x. not (is_listed_before x e)) es (all_more (λ x. is_listed_before x e ≡ false) (λ x. not (is_listed_before x e) ≡ true) (λ x h. ap not h) es r)) (put_first e es)
  where
    put_first : (e : Entry) (es : List Entry) → insert es 0 e ≡ e ∷ es
    put_first e [] = refl
    put_first e (x ∷ xs) = refl
place_found e [] (suc i) le f r = absurd (omega arith)
place_found e (x ∷ xs) (suc i) le f r = rw f.0 (ap (λ (ys : List Entry). x ∷ ys) (place_found e xs i (omega arith) f.1 r))

module _ (front middle back : List Entry) (e : Entry) (before : AllByRecursion (λ f. is_listed_before f e ≡ true) front) (after : AllByRecursion (λ f. is_listed_before e f ≡ true) back) where
  behind : AllByRecursion (λ f. is_listed_before f e ≡ false) back
  behind = all_more (λ f. is_listed_before e f ≡ true) (λ f. is_listed_before f e ≡ false) (λ f h. listed_asym e f h) back after

  first_of : filter (λ x. is_listed_before x e) (front ++ (middle ++ back)) ≡ front ++ filter (λ x. is_listed_before x e) middle
  first_of =
      filter-append (λ x. is_listed_before x e) front (middle ++ back)
      ∙ (rw (filter_all (λ x. is_listed_before x e) front before, filter-append (λ x. is_listed_before x e) middle back, filter_out (λ x. is_listed_before x e) back behind) (ap (λ (xs : List Entry). front ++ xs) (append-nil (filter (λ x. is_listed_before x e) middle))))

  rest_of : filter (λ x. not (is_listed_before x e)) (front ++ (middle ++ back)) ≡ filter (λ x. not (is_listed_before x e)) middle ++ back
  rest_of =
      filter-append (λ x. not (is_listed_before x e)) front (middle ++ back)
      ∙ (rw (filter_out (λ x. not (is_listed_before x e)) front (all_more (λ f. is_listed_before f e ≡ true) (λ f. not (is_listed_before f e) ≡ false) (λ f h. ap not h) front before), filter-append (λ x. not (is_listed_before x e)) middle back, filter_all (λ x. not (is_listed_before x e)) back (all_more (λ f. is_listed_before f e ≡ false) (λ f. not (is_listed_before f e) ≡ true) (λ f h. ap not h) back behind)) refl)

  pub inserted_between : inserted e (front ++ (middle ++ back)) ≡ front ++ (inserted e middle ++ back)
  inserted_between =
      rw (first_of, rest_of)
      (append_assoc front (filter (λ x. is_listed_before x e) middle) (e ∷ (filter (λ x. not (is_listed_before x e)) middle ++ back))
      ∙ ap (λ (xs : List Entry). front ++ xs) (sym (append_assoc (filter (λ x. is_listed_before x e) middle) (e ∷ filter (λ x. not (is_listed_before x e)) middle) back)))

  pub others_between : others e (front ++ (middle ++ back)) ≡ front ++ (others e middle ++ back)
  others_between =
      filter-append other front (middle ++ back)
      ∙ (rw (filter_all other front (all_more (λ f. is_listed_before f e ≡ true) (λ f. other f ≡ true) (λ f h. first f h) front before), filter-append other middle back, filter_all other back (all_more (λ f. is_listed_before e f ≡ true) (λ f. other f ≡ true) (λ f h. second f h) back after)) refl)
    where
      other : Entry → Bool
      other x = is_listed_before x e || is_listed_before e x

      first : (f : Entry) → is_listed_before f e ≡ true → (is_listed_before f e || is_listed_before e f) ≡ true
      first f h = rw h

      either : (x : Bool) → (x || true) ≡ true
      either true = refl
      either false = refl

      second : (f : Entry) → is_listed_before e f ≡ true → (is_listed_before f e || is_listed_before e f) ≡ true
      second f h = rw h (either (is_listed_before f e))

-- ---- how many

both_filters : (p : Entry → Bool) (es : List Entry) → length (filter p es) + length (filter (λ x. not (p x)) es) ≡ length es
both_filters p [] = refl
both_filters p (e ∷ es) = either (p e) (both_filters p es)
  where
    either : (x : Bool) → length (filter p es) + length (filter (λ y. not (p y)) es) ≡ length es → length (cond x (e ∷ filter p es) (filter p es)) + length (cond (not x) (e ∷ filter (λ y. not (p y)) es) (filter (λ y. not (p y)) es)) ≡ suc (length es)
    either true h = omega arith
    either false h = omega arith

pub length_inserted : (e : Entry) (es : List Entry) → length (inserted e es) ≡ length es + 1
length_inserted e es = rw (length-append (filter (λ x. is_listed_before x e) es) (e ∷ filter (λ x. not (is_listed_before x e)) es)) (omega (arith, both_filters (λ x. is_listed_before x e) es))

pub ordered_others : (e : Entry) (es : List Entry) → IsOrdered es → IsOrdered (others e es)
ordered_others e es o = ordered_filter (λ x. is_listed_before x e || is_listed_before e x) es o
