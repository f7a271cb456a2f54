-- Entries in the order of their codes, parted at one of them.
use Rattle.std.proofs.Common.{◌≡◌, ℕ, ◌+◌, List, [], ◌∷◌, ◌++◌, Bool, true, false, cond, not, length, map, option_map, Option, Some, None, refl, sym, ap, ◌∙◌, subst, append_assoc, append-nil, length-append, arith}
use Rattle.std.specs.declared.cmp.Ordering.{Ordering}
use Rattle.std.specs.declared.cmp.Ordering.TheVariants.{Less, Equal, Greater}
use Rattle.std.specs.Ordering.{is_lt, is_eq, is_gt, ordering_reverse}
use Rattle.std.specs.Cmp.Lexicographic.{nat_list_cmp_total}
use Rattle.std.specs.List.{AllByRecursion, filter}
use Rattle.std.specs.List.Sorted.{IsStrictlySortedBy}
use Rattle.std.proofs.lemmas.List.Elements.{filter-append}
use Rattle.std.proofs.lemmas.List.Kept.{IsStrictlySortedBy-filter}
use Rattle.adr_shared.specs.Map.{code_cmp, IsAscending, lookup, place_of, below, above, put, without}

-- the code compares so with the codes of the entries
abbrev pub Compares : {V : Type 0} → List ℕ → Ordering → List (List ℕ × V) → Type 0
Compares code o es = AllByRecursion (λ e. code_cmp code e.0 ≡ o) es

-- the parts are in order, and the entry between them divides them
pub record AreParts {V : Type 0} (l : List (List ℕ × V)) (code : List ℕ) (r : List (List ℕ × V)) : Type 0 where
  pub left : IsAscending l
  pub before : Compares code Greater l
  pub after : Compares code Less r
  pub right : IsAscending r

turned : (c k : List ℕ) (o : Ordering) → code_cmp c k ≡ o → code_cmp k c ≡ ordering_reverse o
turned c k o e = nat_list_cmp_total.antisymm k c ∙ ap ordering_reverse e

only_gt : (x : Ordering) → is_gt x ≡ true → x ≡ Greater
only_gt Less q = cc
only_gt Equal q = cc
only_gt Greater q = refl

only_lt : (x : Ordering) → is_lt x ≡ true → x ≡ Less
only_lt Less q = refl
only_lt Equal q = cc
only_lt Greater q = cc

-- no entries are in order
pub ascending_none : (V : Type 0) → IsAscending {V = V} []
unfolding IsStrictlySortedBy
ascending_none V = tt

module _ {V : Type 0} where
  all_map : (P Q : List ℕ × V → Type 0) → ((e : List ℕ × V) → P e → Q e) → (es : List (List ℕ × V)) → AllByRecursion P es → AllByRecursion Q es
  all_map P Q f [] a = tt
  all_map P Q f (e ∷ es) a = (f e a.0, all_map P Q f es a.1)

  all_keys : (P : List ℕ → Type 0) (es : List (List ℕ × V)) → AllByRecursion P (map (λ e. e.0) es) → AllByRecursion (λ e. P e.0) es
  all_keys P [] a = tt
  all_keys P (e ∷ es) a = (a.0, all_keys P es a.1)

  keys_all : (P : List ℕ → Type 0) (es : List (List ℕ × V)) → AllByRecursion (λ e. P e.0) es → AllByRecursion P (map (λ e. e.0) es)
  keys_all P [] a = tt
  keys_all P (e ∷ es) a = (a.0, keys_all P es a.1)

  all_append : (P : List ℕ × V → Type 0) (l m : List (List ℕ × V)) → AllByRecursion P l → AllByRecursion P m → AllByRecursion P (l ++ m)
  all_append P [] m a b = b
  all_append P (e ∷ l) m a b = (a.0, all_append P l m a.1 b)

  all_front : (P : List ℕ × V → Type 0) (l m : List (List ℕ × V)) → AllByRecursion P (l ++ m) → AllByRecursion P l
  all_front P [] m a = tt
  all_front P (e ∷ l) m a = (a.0, all_front P l m a.1)

  all_back : (P : List ℕ × V → Type 0) (l m : List (List ℕ × V)) → AllByRecursion P (l ++ m) → AllByRecursion P m
  all_back P [] m a = a
  all_back P (e ∷ l) m a = all_back P l m a.1

  -- entries in order, from an entry and those after it
  ascending_cons : (x : List ℕ × V) (es : List (List ℕ × V)) → Compares x.0 Less es → IsAscending es → IsAscending (x ∷ es)
  unfolding IsStrictlySortedBy
  ascending_cons x es a s = (keys_all (λ k. code_cmp x.0 k ≡ Less) es a, s)

  ascending_head : (x : List ℕ × V) (es : List (List ℕ × V)) → IsAscending (x ∷ es) → Compares x.0 Less es
  unfolding IsStrictlySortedBy
  ascending_head x es s = all_keys (λ k. code_cmp x.0 k ≡ Less) es s.0

  ascending_tail : (x : List ℕ × V) (es : List (List ℕ × V)) → IsAscending (x ∷ es) → IsAscending es
  unfolding IsStrictlySortedBy
  ascending_tail x es s = s.1

  -- entries in order are parted by each of them
  pub parted : (l : List (List ℕ × V)) (e : List ℕ × V) (r : List (List ℕ × V)) → IsAscending (l ++ e ∷ r) → AreParts l e.0 r
  parted [] e r s = record { left = ascending_none V; before = tt; after = ascending_head e r s; right = ascending_tail e r s }
  parted (x ∷ l) e r s =
      let rest = parted l e r (ascending_tail x (l ++ e ∷ r) s) in
      let head = ascending_head x (l ++ e ∷ r) s in
      let between = all_back (λ y. code_cmp x.0 y.0 ≡ Less) l (e ∷ r) head in
      record {
        left = ascending_cons x l (all_front (λ y. code_cmp x.0 y.0 ≡ Less) l (e ∷ r) head) rest.left;
        before = (turned x.0 e.0 Less between.0, rest.before);
        after = rest.after;
        right = rest.right;
      }

  -- a code below another is below what is above that
  less_after : (c k : List ℕ) (es : List (List ℕ × V)) → code_cmp c k ≡ Less → Compares k Less es → Compares c Less es
  less_after c k es h a = all_map (λ e. code_cmp k e.0 ≡ Less) (λ e. code_cmp c e.0 ≡ Less) (λ e q. nat_list_cmp_total.trans c k e.0 h q) es a

  greater_before : (c k : List ℕ) (es : List (List ℕ × V)) → code_cmp c k ≡ Greater → Compares k Greater es → Compares c Greater es
  greater_before c k es h a =
      all_map (λ e. code_cmp k e.0 ≡ Greater) (λ e. code_cmp c e.0 ≡ Greater)
      (λ e q. turned e.0 c Less (nat_list_cmp_total.trans e.0 k c (turned k e.0 Greater q) (turned c k Greater h))) es a

  equal_same : (c k : List ℕ) (o : Ordering) (es : List (List ℕ × V)) → code_cmp c k ≡ Equal → Compares k o es → Compares c o es
  equal_same c k o es h a = all_map (λ e. code_cmp k e.0 ≡ o) (λ e. code_cmp c e.0 ≡ o) (λ e q. nat_list_cmp_total.congr c k e.0 h ∙ q) es a

  -- parts in order around an entry are in order
  pub rejoined : (l : List (List ℕ × V)) (e : List ℕ × V) (r : List (List ℕ × V)) → AreParts l e.0 r → IsAscending (l ++ e ∷ r)
  rejoined [] e r p = ascending_cons e r p.after p.right
  rejoined (x ∷ l) e r p =
      let here : code_cmp x.0 e.0 ≡ Less = turned e.0 x.0 Greater p.before.0 in
      ascending_cons x (l ++ e ∷ r)
      (all_append (λ y. code_cmp x.0 y.0 ≡ Less) l (e ∷ r) (ascending_head x l p.left) (here, less_after x.0 e.0 r here p.after))
      (rejoined l e r (record { left = ascending_tail x l p.left; before = p.before.1; after = p.after; right = p.right }))

  -- what a test of comparisons keeps of entries that all compare one way
  kept_whole : (t : Ordering → Bool) (c : List ℕ) (o : Ordering) (es : List (List ℕ × V)) → t o ≡ true → Compares c o es → filter (λ e. t (code_cmp c e.0)) es ≡ es
  kept_whole t c o [] h a = refl
  kept_whole t c o (e ∷ es) h a = rw (ap t a.0 ∙ h) (ap (λ xs. e ∷ xs) (kept_whole t c o es h a.1))

  kept_none : (t : Ordering → Bool) (c : List ℕ) (o : Ordering) (es : List (List ℕ × V)) → t o ≡ false → Compares c o es → filter (λ e. t (code_cmp c e.0)) es ≡ []
  kept_none t c o [] h a = refl
  kept_none t c o (e ∷ es) h a = rw (ap t a.0 ∙ h) (kept_none t c o es h a.1)

  -- a look-up among entries none of which has the code
  found_none : (c : List ℕ) (o : Ordering) (es : List (List ℕ × V)) → is_eq o ≡ false → Compares c o es → lookup c es ≡ None
  found_none c o [] h a = refl
  found_none c o (e ∷ es) h a = rw (ap is_eq a.0 ∙ h) (found_none c o es h a.1)

  found_before : (c : List ℕ) (l m : List (List ℕ × V)) → lookup c m ≡ None → lookup c (l ++ m) ≡ lookup c l
  found_before c [] m h = h
  found_before c (e ∷ l) m h = ap (cond (is_eq (code_cmp c e.0)) (Some e.1)) (found_before c l m h)

  found_after : (c : List ℕ) (l m : List (List ℕ × V)) → Compares c Greater l → lookup c (l ++ m) ≡ lookup c m
  found_after c [] m a = refl
  found_after c (e ∷ l) m a = rw (ap is_eq a.0) (found_after c l m a.1)

  pub lookup_below : (c : List ℕ) (l : List (List ℕ × V)) (e : List ℕ × V) (r : List (List ℕ × V)) → code_cmp c e.0 ≡ Less → IsAscending (l ++ e ∷ r) → lookup c (l ++ e ∷ r) ≡ lookup c l
  lookup_below c l e r h s = found_before c l (e ∷ r) (found_none c Less (e ∷ r) refl (h, less_after c e.0 r h (parted l e r s).after))

  pub lookup_at : (c : List ℕ) (l : List (List ℕ × V)) (e : List ℕ × V) (r : List (List ℕ × V)) → code_cmp c e.0 ≡ Equal → IsAscending (l ++ e ∷ r) → lookup c (l ++ e ∷ r) ≡ Some e.1
  lookup_at c l e r h s = found_after c l (e ∷ r) (equal_same c e.0 Greater l h (parted l e r s).before) ∙ rw h refl

  pub lookup_above : (c : List ℕ) (l : List (List ℕ × V)) (e : List ℕ × V) (r : List (List ℕ × V)) → code_cmp c e.0 ≡ Greater → IsAscending (l ++ e ∷ r) → lookup c (l ++ e ∷ r) ≡ lookup c r
  lookup_above c l e r h s = found_after c l (e ∷ r) (greater_before c e.0 l h (parted l e r s).before) ∙ rw h refl

  -- what a test keeps of entries that a code is compared with: of those before, at and after it
  kept : (t : Ordering → Bool) (c : List ℕ) (l : List (List ℕ × V)) (e : List ℕ × V) (r : List (List ℕ × V))
      → filter (λ x. t (code_cmp c x.0)) (l ++ e ∷ r) ≡ filter (λ x. t (code_cmp c x.0)) l ++ filter (λ x. t (code_cmp c x.0)) (e ∷ r)
  kept t c l e r = filter-append (λ x. t (code_cmp c x.0)) l (e ∷ r)

  kept_below : (t : Ordering → Bool) (c : List ℕ) (l : List (List ℕ × V)) (e : List ℕ × V) (r : List (List ℕ × V)) → t Less ≡ true → code_cmp c e.0 ≡ Less → AreParts l e.0 r
      → filter (λ x. t (code_cmp c x.0)) (l ++ e ∷ r) ≡ filter (λ x. t (code_cmp c x.0)) l ++ e ∷ r
  kept_below t c l e r b h p =
      kept t c l e r ∙ ap (λ xs. filter (λ x. t (code_cmp c x.0)) l ++ xs) (kept_whole t c Less (e ∷ r) b (h, less_after c e.0 r h p.after))

  dropped_below : (t : Ordering → Bool) (c : List ℕ) (l : List (List ℕ × V)) (e : List ℕ × V) (r : List (List ℕ × V)) → t Less ≡ false → code_cmp c e.0 ≡ Less → AreParts l e.0 r
      → filter (λ x. t (code_cmp c x.0)) (l ++ e ∷ r) ≡ filter (λ x. t (code_cmp c x.0)) l
  dropped_below t c l e r b h p =
      kept t c l e r ∙ ap (λ xs. filter (λ x. t (code_cmp c x.0)) l ++ xs) (kept_none t c Less (e ∷ r) b (h, less_after c e.0 r h p.after)) ∙ append-nil _

  kept_above : (t : Ordering → Bool) (c : List ℕ) (l : List (List ℕ × V)) (e : List ℕ × V) (r : List (List ℕ × V)) → t Greater ≡ true → code_cmp c e.0 ≡ Greater → AreParts l e.0 r
      → filter (λ x. t (code_cmp c x.0)) (l ++ e ∷ r) ≡ l ++ e ∷ filter (λ x. t (code_cmp c x.0)) r
  kept_above t c l e r b h p =
      kept t c l e r ∙ ap (λ xs. xs ++ filter (λ x. t (code_cmp c x.0)) (e ∷ r)) (kept_whole t c Greater l b (greater_before c e.0 l h p.before))
      ∙ rw (ap t h ∙ b) refl

  dropped_above : (t : Ordering → Bool) (c : List ℕ) (l : List (List ℕ × V)) (e : List ℕ × V) (r : List (List ℕ × V)) → t Greater ≡ false → code_cmp c e.0 ≡ Greater → AreParts l e.0 r
      → filter (λ x. t (code_cmp c x.0)) (l ++ e ∷ r) ≡ filter (λ x. t (code_cmp c x.0)) r
  dropped_above t c l e r b h p =
      kept t c l e r ∙ ap (λ xs. xs ++ filter (λ x. t (code_cmp c x.0)) (e ∷ r)) (kept_none t c Greater l b (greater_before c e.0 l h p.before))
      ∙ rw (ap t h ∙ b) refl

  kept_left : (t : Ordering → Bool) (c : List ℕ) (l : List (List ℕ × V)) (e : List ℕ × V) (r : List (List ℕ × V)) → t Greater ≡ true → t Equal ≡ false → t Less ≡ false → code_cmp c e.0 ≡ Equal → AreParts l e.0 r
      → filter (λ x. t (code_cmp c x.0)) (l ++ e ∷ r) ≡ l
  kept_left t c l e r g q b h p =
      kept t c l e r
      ∙ ap (λ xs. xs ++ filter (λ x. t (code_cmp c x.0)) (e ∷ r)) (kept_whole t c Greater l g (equal_same c e.0 Greater l h p.before))
      ∙ rw (ap t h ∙ q) (ap (λ xs. l ++ xs) (kept_none t c Less r b (equal_same c e.0 Less r h p.after)) ∙ append-nil l)

  kept_right : (t : Ordering → Bool) (c : List ℕ) (l : List (List ℕ × V)) (e : List ℕ × V) (r : List (List ℕ × V)) → t Greater ≡ false → t Equal ≡ false → t Less ≡ true → code_cmp c e.0 ≡ Equal → AreParts l e.0 r
      → filter (λ x. t (code_cmp c x.0)) (l ++ e ∷ r) ≡ r
  kept_right t c l e r g q b h p =
      kept t c l e r
      ∙ ap (λ xs. xs ++ filter (λ x. t (code_cmp c x.0)) (e ∷ r)) (kept_none t c Greater l g (equal_same c e.0 Greater l h p.before))
      ∙ rw (ap t h ∙ q) (kept_whole t c Less r b (equal_same c e.0 Less r h p.after))

  kept_beside : (t : Ordering → Bool) (c : List ℕ) (l : List (List ℕ × V)) (e : List ℕ × V) (r : List (List ℕ × V)) → t Greater ≡ true → t Equal ≡ false → t Less ≡ true → code_cmp c e.0 ≡ Equal → AreParts l e.0 r
      → filter (λ x. t (code_cmp c x.0)) (l ++ e ∷ r) ≡ l ++ r
  kept_beside t c l e r g q b h p =
      kept t c l e r
      ∙ ap (λ xs. xs ++ filter (λ x. t (code_cmp c x.0)) (e ∷ r)) (kept_whole t c Greater l g (equal_same c e.0 Greater l h p.before))
      ∙ rw (ap t h ∙ q) (ap (λ xs. l ++ xs) (kept_whole t c Less r b (equal_same c e.0 Less r h p.after)))

  pub without_below : (c : List ℕ) (l : List (List ℕ × V)) (e : List ℕ × V) (r : List (List ℕ × V)) → code_cmp c e.0 ≡ Less → IsAscending (l ++ e ∷ r) → without c (l ++ e ∷ r) ≡ without c l ++ e ∷ r
  without_below c l e r h s = kept_below (λ o. not (is_eq o)) c l e r refl h (parted l e r s)

  pub without_at : (c : List ℕ) (l : List (List ℕ × V)) (e : List ℕ × V) (r : List (List ℕ × V)) → code_cmp c e.0 ≡ Equal → IsAscending (l ++ e ∷ r) → without c (l ++ e ∷ r) ≡ l ++ r
  without_at c l e r h s = kept_beside (λ o. not (is_eq o)) c l e r refl refl refl h (parted l e r s)

  pub without_above : (c : List ℕ) (l : List (List ℕ × V)) (e : List ℕ × V) (r : List (List ℕ × V)) → code_cmp c e.0 ≡ Greater → IsAscending (l ++ e ∷ r) → without c (l ++ e ∷ r) ≡ l ++ e ∷ without c r
  without_above c l e r h s = kept_above (λ o. not (is_eq o)) c l e r refl h (parted l e r s)

  pub put_below : (c : List ℕ) (v : V) (l : List (List ℕ × V)) (e : List ℕ × V) (r : List (List ℕ × V)) → code_cmp c e.0 ≡ Less → IsAscending (l ++ e ∷ r) → put c v (l ++ e ∷ r) ≡ put c v l ++ e ∷ r
  put_below c v l e r h s =
      let p = parted l e r s in
      ap (λ xs. xs ++ (c, v) ∷ above c (l ++ e ∷ r)) (dropped_below is_gt c l e r refl h p)
      ∙ ap (λ xs. below c l ++ (c, v) ∷ xs) (kept_below is_lt c l e r refl h p)
      ∙ sym (append_assoc (below c l) ((c, v) ∷ above c l) (e ∷ r))

  pub put_at : (c : List ℕ) (v : V) (l : List (List ℕ × V)) (e : List ℕ × V) (r : List (List ℕ × V)) → code_cmp c e.0 ≡ Equal → IsAscending (l ++ e ∷ r) → put c v (l ++ e ∷ r) ≡ l ++ (c, v) ∷ r
  put_at c v l e r h s =
      let p = parted l e r s in
      ap (λ xs. xs ++ (c, v) ∷ above c (l ++ e ∷ r)) (kept_left is_gt c l e r refl refl refl h p)
      ∙ ap (λ xs. l ++ (c, v) ∷ xs) (kept_right is_lt c l e r refl refl refl h p)

  pub put_above : (c : List ℕ) (v : V) (l : List (List ℕ × V)) (e : List ℕ × V) (r : List (List ℕ × V)) → code_cmp c e.0 ≡ Greater → IsAscending (l ++ e ∷ r) → put c v (l ++ e ∷ r) ≡ l ++ e ∷ put c v r
  put_above c v l e r h s =
      let p = parted l e r s in
      ap (λ xs. xs ++ (c, v) ∷ above c (l ++ e ∷ r)) (kept_above is_gt c l e r refl h p)
      ∙ ap (λ xs. (l ++ e ∷ below c r) ++ (c, v) ∷ xs) (dropped_above is_lt c l e r refl h p)
      ∙ append_assoc l (e ∷ below c r) ((c, v) ∷ above c r)

  pub place_below : (c : List ℕ) (l : List (List ℕ × V)) (e : List ℕ × V) (r : List (List ℕ × V)) → code_cmp c e.0 ≡ Less → IsAscending (l ++ e ∷ r) → place_of c (l ++ e ∷ r) ≡ place_of c l
  place_below c l e r h s =
      ap (option_map (λ _. length (below c (l ++ e ∷ r)))) (lookup_below c l e r h s)
      ∙ ap (λ xs. option_map (λ _. length xs) (lookup c l)) (dropped_below is_gt c l e r refl h (parted l e r s))

  pub place_at : (c : List ℕ) (l : List (List ℕ × V)) (e : List ℕ × V) (r : List (List ℕ × V)) → code_cmp c e.0 ≡ Equal → IsAscending (l ++ e ∷ r) → place_of c (l ++ e ∷ r) ≡ Some (length l)
  place_at c l e r h s =
      ap (option_map (λ _. length (below c (l ++ e ∷ r)))) (lookup_at c l e r h s)
      ∙ ap (λ xs. Some (length xs)) (kept_left is_gt c l e r refl refl refl h (parted l e r s))

  moved_on : (n m : ℕ) (o : Option V) → option_map (λ _. n + 1 + m) o ≡ option_map (λ p. n + 1 + p) (option_map (λ _. m) o)
  moved_on n m None = refl
  moved_on n m (Some v) = refl

  pub place_above : (c : List ℕ) (l : List (List ℕ × V)) (e : List ℕ × V) (r : List (List ℕ × V)) → code_cmp c e.0 ≡ Greater → IsAscending (l ++ e ∷ r)
      → place_of c (l ++ e ∷ r) ≡ option_map (λ p. length l + 1 + p) (place_of c r)
  place_above c l e r h s =
      let many : length (l ++ e ∷ below c r) ≡ length l + 1 + length (below c r) = omega (arith, length-append l (e ∷ below c r)) in
      ap (option_map (λ _. length (below c (l ++ e ∷ r)))) (lookup_above c l e r h s)
      ∙ ap (λ xs. option_map (λ _. length xs) (lookup c r)) (kept_above is_gt c l e r refl h (parted l e r s))
      ∙ ap (λ n. option_map (λ _. n) (lookup c r)) many
      ∙ moved_on (length l) (length (below c r)) (lookup c r)

  -- what an edit leaves is in order
  keys_filter : (p : List ℕ → Bool) (es : List (List ℕ × V)) → map (λ e. e.0) (filter (λ e. p e.0) es) ≡ filter p (map (λ e. e.0) es)
  keys_filter p [] = refl
  keys_filter p (e ∷ es) = by (p e.0) (keys_filter p es)
    where
      by : (b : Bool) → map (λ x. x.0) (filter (λ x. p x.0) es) ≡ filter p (map (λ x. x.0) es)
          → map (λ x. x.0) (cond b (e ∷ filter (λ x. p x.0) es) (filter (λ x. p x.0) es)) ≡ cond b (e.0 ∷ filter p (map (λ x. x.0) es)) (filter p (map (λ x. x.0) es))
      by true rest = ap (λ ks. e.0 ∷ ks) rest
      by false rest = rest

  ascends_kept : (p : List ℕ → Bool) (es : List (List ℕ × V)) → IsAscending es → IsAscending (filter (λ e. p e.0) es)
  ascends_kept p es s = subst (IsStrictlySortedBy code_cmp) (sym (keys_filter p es)) (IsStrictlySortedBy-filter code_cmp p (map (λ e. e.0) es) s)

  pub ascends_without : (c : List ℕ) (es : List (List ℕ × V)) → IsAscending es → IsAscending (without c es)
  ascends_without c es s = ascends_kept (λ k. not (is_eq (code_cmp c k))) es s

  passed : (t : Ordering → Bool) (o : Ordering) (only : (x : Ordering) → t x ≡ true → x ≡ o) (c : List ℕ) (es : List (List ℕ × V)) → Compares c o (filter (λ e. t (code_cmp c e.0)) es)
  passed t o only c [] = tt
  passed t o only c (e ∷ es) = by (t (code_cmp c e.0)) refl (passed t o only c es)
    where
      by : (b : Bool) → t (code_cmp c e.0) ≡ b → Compares c o (filter (λ x. t (code_cmp c x.0)) es) → Compares c o (cond b (e ∷ filter (λ x. t (code_cmp c x.0)) es) (filter (λ x. t (code_cmp c x.0)) es))
      by true q rest = (only (code_cmp c e.0) q, rest)
      by false q rest = rest

  pub ascends_put : (c : List ℕ) (v : V) (es : List (List ℕ × V)) → IsAscending es → IsAscending (put c v es)
  ascends_put c v es s =
      rejoined (below c es) (c, v) (above c es) (record {
        left = ascends_kept (λ k. is_gt (code_cmp c k)) es s;
        before = passed is_gt Greater only_gt c es;
        after = passed is_lt Less only_lt c es;
        right = ascends_kept (λ k. is_lt (code_cmp c k)) es s;
      })
