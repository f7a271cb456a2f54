-- Entries in order of their ends.
use Rattle.std.proofs.Common.{◌≡◌, ℕ, zero, suc, ◌+◌, ◌-◌, ◌/◌, ◌^◌, ◌<◌, ◌≤◌, Bool, true, false, ◌||◌, cond, List, [], ◌∷◌, ◌++◌, length, filter, take, drop, get_or, Option, refl, sym, ◌∙◌, ap, arith, ℤ}
use Rattle.std.specs.List.{AllByRecursion, insert}
use Rattle.std.proofs.Math.ListN.{drop_of_length-le}
use Rattle.std.proofs.lemmas.List.{append_assoc, append-nil, drop_at, drop_more, get_or_default, get_or_read, get_or-take, length-append, length-take-le, take_at, take_more, take-append-drop}
use Rattle.std.proofs.lemmas.Bool.{false≢true}
use Rattle.adr_time.specs.declared.span.End.{End}
use Rattle.adr_model.specs.declared.entry.Entry.{Entry}
use Rattle.adr_index.specs.Index.{others, others_all}
use Rattle.adr_index.specs.Query.{lasts_past}
use Rattle.adr_index.specs.Tree.{any_lasts, comes_after, only, own_end, AreSearched, HasEnds, IsByEnd, IsGreatest, IsTree, Outlasts}
use Rattle.adr_index.proofs.Grown.{own_after, tree_at, tree_levels}
use Rattle.adr_index.proofs.Ordered.{all_filter, all_joined, all_left, all_more, all_right}

-- one outlasts what another does that it outlasts
outlasts_more : (g f e : Entry) → Outlasts g f → Outlasts f e → Outlasts g e
outlasts_more g f e h k = λ t l. h t (k t l)

-- by the ends as they are kept
pub outlasts : (f e : Entry) → ((t : ℤ) → comes_after (own_end e) t ≡ true → comes_after (own_end f) t ≡ true) → Outlasts f e
outlasts f e h = λ t l. sym (own_after f t) ∙ h t (own_after e t ∙ l)

-- the same of one that was read from a list, at any default
pub outlasts_read : (es : List Entry) (i : ℕ) (x e d : Entry) (g h : Option End) → i < length es → x ≡ get_or es i x → h ≡ own_end x → g ≡ own_end e → ((t : ℤ) → comes_after h t ≡ true → comes_after g t ≡ true) → Outlasts e (get_or es i d)
outlasts_read es i x e d g h inside read kept own k = rw (← get_or_read es i x inside read d) (outlasts e x (rw (← kept, ← own) k))

pub outlasted_read : (es : List Entry) (i : ℕ) (x e d : Entry) (g h : Option End) → i < length es → x ≡ get_or es i x → h ≡ own_end x → g ≡ own_end e → ((t : ℤ) → comes_after g t ≡ true → comes_after h t ≡ true) → Outlasts (get_or es i d) e
outlasted_read es i x e d g h inside read kept own k = rw (← get_or_read es i x inside read d) (outlasts x e (rw (← kept, ← own) k))

-- ---- parts

pub by_end_left : (xs ys : List Entry) → IsByEnd (xs ++ ys) → IsByEnd xs
by_end_left [] ys o = tt
by_end_left (x ∷ xs) ys o = (all_left (λ f. Outlasts f x) xs ys o.0, by_end_left xs ys o.1)

pub by_end_right : (xs ys : List Entry) → IsByEnd (xs ++ ys) → IsByEnd ys
by_end_right [] ys o = o
by_end_right (x ∷ xs) ys o = by_end_right xs ys o.1

by_end_filter : (p : Entry → Bool) (es : List Entry) → IsByEnd es → IsByEnd (filter p es)
by_end_filter p [] o = tt
by_end_filter p (e ∷ es) o = either (p e) (by_end_filter p es o.1)
  where
    either : (x : Bool) → IsByEnd (filter p es) → IsByEnd (cond x (e ∷ filter p es) (filter p es))
    either true rest = (all_filter (λ f. Outlasts f e) p es o.0, rest)
    either false rest = rest

-- what is left when others have gone
pub by_end_others : (gone es : List Entry) → IsByEnd es → IsByEnd (others_all gone es)
by_end_others [] es o = o
by_end_others (e ∷ gone) es o = by_end_others gone (others e es) (by_end_filter _ es o)

-- ---- one more

-- between those that it outlasts and those that outlast it
by_end_between : (xs : List Entry) (e : Entry) (ys : List Entry) → IsByEnd (xs ++ ys) → AllByRecursion (λ x. Outlasts e x) xs → AllByRecursion (λ y. Outlasts y e) ys → IsByEnd (xs ++ e ∷ ys)
by_end_between [] e ys o before after = (after, o)
by_end_between (x ∷ xs) e ys o before after = (
  all_joined (λ f. Outlasts f x) xs (e ∷ ys) (all_left (λ f. Outlasts f x) xs ys o.0) (before.0, all_right (λ f. Outlasts f x) xs ys o.0),
  by_end_between xs e ys o.1 before.1 after,
)

-- behind the last, where it outlasts that one
up_to_last : (xs : List Entry) (j : ℕ) (x e : Entry) → IsByEnd xs → length xs ≡ suc j → x ≡ get_or xs j x → Outlasts e x → AllByRecursion (λ f. Outlasts e f) xs
up_to_last [] j x e o l read h = absurd (omega arith)
up_to_last (z ∷ []) zero x e o l read h = (rw (← read) h, tt)
up_to_last (z ∷ []) (suc j) x e o l read h = absurd (omega arith)
up_to_last (z ∷ (y ∷ ys)) zero x e o l read h = absurd (omega arith)
up_to_last (z ∷ (y ∷ ys)) (suc j) x e o l read h =
    let rest = up_to_last (y ∷ ys) j x e o.1 (omega arith) read h in
    (outlasts_more e y z rest.0 o.0.0, rest)

from_first : (y : Entry) (ys : List Entry) (e : Entry) → IsByEnd (y ∷ ys) → Outlasts y e → AllByRecursion (λ f. Outlasts f e) (y ∷ ys)
from_first y ys e o h = (h, all_more (λ f. Outlasts f y) (λ f. Outlasts f e) (λ f k. outlasts_more f y e k h) ys o.0)

pub by_end_longer : (xs : List Entry) (j : ℕ) (x e : Entry) → IsByEnd xs → length xs ≡ suc j → x ≡ get_or xs j x → Outlasts e x → IsByEnd (xs ++ e ∷ [])
by_end_longer xs j x e o l read h = by_end_between xs e [] (rw (append-nil xs) o) (up_to_last xs j x e o l read h) tt

taken_read : (es : List Entry) (i j : ℕ) (d : Entry) → j < i → i < length es → get_or es j d ≡ get_or (take i es) j (get_or es j d)
taken_read es i j d less inside = sym (get_or-take i es j (get_or es j d) less ∙ get_or_default es j (get_or es j d) d (omega (arith, less, inside)))

-- a further one that ends no earlier than the last so far
pub by_end_stepped : (es : List Entry) (i : ℕ) (e : Entry) (g : Option End) → i < length es → e ≡ get_or es i e → IsByEnd (take i es)
    → ((d : Entry) → 0 < i → g ≡ own_end (get_or es (i - 1) d)) → ((t : ℤ) → comes_after g t ≡ true → comes_after (own_end e) t ≡ true) → IsByEnd (take (i + 1) es)
by_end_stepped es i e g inside read o last h = rw (take_more es i e inside, ← read) (either i refl)
  where
    either : (j : ℕ) → i ≡ j → IsByEnd (take i es ++ e ∷ [])
    either zero k = rw k (tt, tt)
    either (suc j) k =
        let less : i - 1 ≡ j = omega (arith, k) in
        let own : g ≡ own_end (get_or es j e) = rw (← less) (last e (omega (arith, k))) in
        by_end_longer (take i es) j (get_or es j e) e o (length-take-le i es (omega (arith, inside)) ∙ k) (taken_read es i j e (omega (arith, k)) (omega (arith, inside))) (outlasts e (get_or es j e) (λ t l. h t (ap (λ (x : Option End). comes_after x t) own ∙ l)))

-- one in its place
pub by_end_fits : (es : List Entry) (i : ℕ) (e : Entry) → i < length es → e ≡ get_or es i e
    → (0 < i → Outlasts e (get_or es (i - 1) e)) → (i + 1 < length es → Outlasts (get_or es (i + 1) e) e)
    → IsByEnd (take i es ++ drop (i + 1) es) → IsByEnd es
by_end_fits es i e inside read before after o = rw whole (by_end_between (take i es) e (drop (i + 1) es) o (all_before i refl) (all_after (length es - (i + 1)) refl))
  where
    whole : es ≡ take i es ++ e ∷ drop (i + 1) es
    whole = sym (take-append-drop i es) ∙ ap (λ (xs : List Entry). take i es ++ xs) (drop_more es i e inside ∙ ap (λ (x : Entry). x ∷ drop (i + 1) es) (sym read))

    all_before : (j : ℕ) → i ≡ j → AllByRecursion (λ f. Outlasts e f) (take i es)
    all_before zero k = rw k tt
    all_before (suc j) k =
        let less : i - 1 ≡ j = omega (arith, k) in
        up_to_last (take i es) j (get_or es j e) e (by_end_left (take i es) (drop (i + 1) es) o) (length-take-le i es (omega (arith, inside)) ∙ k) (taken_read es i j e (omega (arith, k)) (omega (arith, inside))) (rw (← less) (before (omega (arith, k))))

    all_after : (n : ℕ) → length es - (i + 1) ≡ n → AllByRecursion (λ f. Outlasts f e) (drop (i + 1) es)
    all_after zero k = let past : length es ≤ i + 1 = omega (arith, k) in rw (drop_of_length-le es past) tt
    all_after (suc n) k =
        let more : i + 1 < length es = omega (arith, k) in
        let next = drop_more es (i + 1) e more in
        rw next (from_first (get_or es (i + 1) e) (drop (i + 1 + 1) es) e (rw next at (by_end_right (take i es) (drop (i + 1) es) o)) (after more))

-- ---- the last ends last

last_lasts : (xs : List Entry) (j : ℕ) (x : Entry) (t : ℤ) → IsByEnd xs → length xs ≡ suc j → x ≡ get_or xs j x → lasts_past x t ≡ any_lasts xs t
last_lasts [] j x t o l read = absurd (omega arith)
last_lasts (z ∷ []) zero x t o l read = rw read (or_none (lasts_past z t))
  where
    or_none : (b : Bool) → b ≡ (b || false)
    or_none true = refl
    or_none false = refl
last_lasts (z ∷ []) (suc j) x t o l read = absurd (omega arith)
last_lasts (z ∷ (y ∷ ys)) zero x t o l read = absurd (omega arith)
last_lasts (z ∷ (y ∷ ys)) (suc j) x t o l read =
    let rest = last_lasts (y ∷ ys) j x t o.1 (omega arith) read in
    rest ∙ either (lasts_past z t) (lasts_past y t) (any_lasts ys t) (o.0.0 t)
  where
    either : (a b c : Bool) → (a ≡ true → b ≡ true) → (b || c) ≡ (a || (b || c))
    either true true c h = refl
    either true false c h = absurd (false≢true (h refl))
    either false b c h = refl

pub greatest_last : (xs : List Entry) (j : ℕ) (x : Entry) → IsByEnd xs → length xs ≡ suc j → x ≡ get_or xs j x → IsGreatest (own_end x) xs
greatest_last xs j x o l read = λ t. own_after x t ∙ last_lasts xs j x t o l read

-- ---- the others, where one is put in

pub others_inserted : (es : List Entry) (i : ℕ) (e : Entry) → i ≤ length es → take i (insert es i e) ++ drop (i + 1) (insert es i e) ≡ es
others_inserted es i e inside = rw (take_at (take i es) (e ∷ drop i es) i taken, behind) (take-append-drop i es)
  where
    taken : length (take i es) ≡ i
    taken = length-take-le i es inside

    behind : drop (i + 1) (take i es ++ e ∷ drop i es) ≡ drop i es
    behind = ap (drop (i + 1)) (sym (append_assoc (take i es) (e ∷ []) (drop i es))) ∙ drop_at (take i es ++ e ∷ []) (drop i es) (i + 1) (length-append (take i es) (e ∷ []) ∙ (omega (arith, taken)))

-- ---- halves that are searched

pub searched_halves : (by_end : Bool) (n : ℕ) (es : List Entry) (gs : List (Option End)) → 0 < n → 8 < length es → AreSearched by_end n es gs
    → AreSearched by_end (n - 1) (take (length es / 2) es) (take (length es / 2 - 1) gs) × AreSearched by_end (n - 1) (drop (length es / 2) es) (drop (length es / 2) gs)
searched_halves true n es gs level more o =
    let parts : IsByEnd (take (length es / 2) es ++ drop (length es / 2) es) = rw (take-append-drop (length es / 2) es) o in
    (by_end_left (take (length es / 2) es) (drop (length es / 2) es) parts, by_end_right (take (length es / 2) es) (drop (length es / 2) es) parts)
searched_halves false n es gs level more tree = (tree_at only 8 n es gs level (omega (arith, more)) tree).1 more

-- where it is said so they are in that order
pub told_by_end : (by_end : Bool) (es : List Entry) (gs : List (Option End)) → by_end ≡ true → HasEnds by_end es gs → IsByEnd es
told_by_end true es gs told h = h.searched
told_by_end false es gs told h = absurd (false≢true told)

-- and else under the tree
pub told_tree : (by_end : Bool) (es : List Entry) (gs : List (Option End)) → by_end ≡ false → (h : HasEnds by_end es gs) → IsTree only 8 h.levels es gs
told_tree false es gs told h = h.searched
told_tree true es gs told h = absurd (false≢true (sym told))

-- a list is all that is taken of it
pub whole_taken : (es : List Entry) (i : ℕ) → length es ≤ i → IsByEnd (take i es) → IsByEnd es
whole_taken es i all o = rw (sym (take-append-drop i es) ∙ ap (λ (xs : List Entry). take i es ++ xs) (drop_of_length-le es all) ∙ append-nil (take i es)) o

-- enough levels serve for any that are
pub searched_levels : (by_end : Bool) (h k : ℕ) (es : List Entry) (gs : List (Option End)) → length es ≤ 2 ^ h → AreSearched by_end h es gs → AreSearched by_end k es gs
searched_levels true h k es gs enough o = o
searched_levels false h k es gs enough t = tree_levels only 8 h k es gs enough t
