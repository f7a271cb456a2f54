-- A tree of greatest ends is made of those of its halves.
use Rattle.std.proofs.Common.{◌≡◌, ℕ, zero, suc, ◌+◌, ◌-◌, ◌*◌, ◌/◌, ◌^◌, ◌<◌, ◌≤◌, Bool, true, false, ◌&&◌, ◌||◌, List, [], ◌∷◌, ◌++◌, length, take, drop, get_or, set, Option, Some, None, cond, refl, sym, ◌∙◌, ap, subst, arith, ℤ, int_lt}
use Rattle.std.specs.List.{flat_map}
use Rattle.std.proofs.lemmas.Int.{ints}
use Rattle.std.proofs.lemmas.Nat.{leading_length}
use Rattle.std.proofs.lemmas.List.{get_or_at, get_or_read, take_at, drop_at, drop_more, append_assoc, length-append, take-append-drop, length-take-le, length-drop}
use Rattle.std.proofs.lemmas.List.Concat.{flat_map-append}
use Rattle.adr_time.specs.declared.span.End.{End}
use Rattle.adr_time.specs.declared.span.End.TheVariants.{At, Endless}
use Rattle.adr_model.specs.declared.entry.Entry.{Entry}
use Rattle.adr_time.specs.Spans.{is_before, lasts, later_end}
use Rattle.adr_index.specs.Index.{digits}
use Rattle.adr_index.specs.Tree.{any_lasts, comes_after, greater_end, only, own_end, IsGreatest, IsTree}
use Rattle.adr_index.specs.Query.{lasts_past}
use Rattle.adr_index.proofs.Ordered.{or_grouped}

-- ---- numbers

pub digits_below : (n : ℕ) → n < 2 ^ 64 → n < 2 ^ digits n
digits_below n lt =
    let found = leading_length 64 n lt in
    let same : found.0 ≡ digits n = omega (arith, found.1) in
    subst (λ (m : ℕ). n < 2 ^ m) same found.2

pub level_some : (n l : ℕ) → 1 < l → l ≤ 2 ^ n → 0 < n
level_some zero l h k = absurd (omega arith)
level_some (suc n) l h k = omega arith

half_left : (h l : ℕ) → l ≤ 2 ^ suc h → l / 2 ≤ 2 ^ h
half_left h l lt = grind arith

half_right : (h l : ℕ) → l ≤ 2 ^ suc h → l - l / 2 ≤ 2 ^ h
half_right h l lt = grind arith

-- the same where there is a level more than they need, so that no parts are past it
pub spare_left : (n l : ℕ) → 0 < n → 8 < l → 2 * l ≤ 2 ^ n → 2 * (l / 2) ≤ 2 ^ (n - 1)
spare_left zero l p two h = absurd (omega arith)
spare_left (suc zero) l p two h = absurd (omega arith)
spare_left (suc (suc n)) l p two h =
    let e : suc (suc n) - 1 ≡ suc n = omega arith in
    let half : l / 2 ≤ 2 ^ n = half_left n l (omega (arith, h)) in
    rw e (omega (arith, half))

pub spare_right : (n l : ℕ) → 0 < n → 8 < l → 2 * l ≤ 2 ^ n → 2 * (l - l / 2) ≤ 2 ^ (n - 1)
spare_right zero l p two h = absurd (omega arith)
spare_right (suc zero) l p two h = absurd (omega arith)
spare_right (suc (suc n)) l p two h =
    let e : suc (suc n) - 1 ≡ suc n = omega arith in
    let half : l - l / 2 ≤ 2 ^ n = half_right n l (omega (arith, h)) in
    rw e (omega (arith, half))

pub few_spared : (n c : ℕ) → 1 < c → c ≤ 8 → 2 * c ≤ 2 ^ n → c ≤ 2 * n
few_spared zero c h k l = absurd (omega arith)
few_spared (suc zero) c h k l = omega arith
few_spared (suc (suc zero)) c h k l = omega arith
few_spared (suc (suc (suc zero))) c h k l = omega arith
few_spared (suc (suc (suc (suc n)))) c h k l = omega arith

pub few_levels : (n c : ℕ) → 1 < c → c ≤ 6 → c ≤ 2 ^ n → c ≤ 2 * n
few_levels zero c h k l = absurd (omega arith)
few_levels (suc zero) c h k l = omega arith
few_levels (suc (suc zero)) c h k l = omega arith
few_levels (suc (suc (suc n))) c h k l = omega arith

-- ---- greatest ends

or_false : (x : Bool) → x ≡ (x || false)
or_false true = refl
or_false false = refl

or_true : (x : Bool) → true ≡ (x || true)
or_true true = refl
or_true false = refl

max_after : (e f : End) (t : ℤ) → is_before t (later_end e f) ≡ (is_before t e || is_before t f)
max_after (At u) (At v) t = grind (arith, ints)
max_after (At u) Endless t = or_true (int_lt t u)
max_after Endless f t = refl

pub later_after : (g h : Option End) (t : ℤ) → comes_after (greater_end g h) t ≡ (comes_after g t || comes_after h t)
later_after None h t = refl
later_after (Some e) None t = or_false (is_before t e)
later_after (Some e) (Some f) t = max_after e f t

pub own_after : (e : Entry) (t : ℤ) → comes_after (own_end e) t ≡ lasts_past e t
own_after e t = either (lasts e.span)
  where
    either : (b : Bool) → comes_after (cond b (Some e.span.end) None) t ≡ (b && is_before t e.span.end)
    either true = refl
    either false = refl

-- an entry's own end is taken in, and those behind it are left
pub own_taken : (es : List Entry) (i : ℕ) (e : Entry) → i < length es → e ≡ get_or es i e → (t : ℤ) (g : Option End) (all : Bool)
    → (comes_after g t || any_lasts (drop i es) t) ≡ all → (comes_after (greater_end g (own_end e)) t || any_lasts (drop (i + 1) es) t) ≡ all
own_taken es i e inside read t g all h =
    rw (later_after g (own_end e) t, own_after e t) (sym (or_grouped (comes_after g t) (lasts_past e t) (any_lasts (drop (i + 1) es) t)) ∙ (ap (λ (xs : List Entry). comes_after g t || any_lasts xs t) (sym (drop_more es i e inside ∙ ap (λ (d : Entry). d ∷ drop (i + 1) es) (sym read))) ∙ h))

pub lasts_append : (xs ys : List Entry) (t : ℤ) → any_lasts (xs ++ ys) t ≡ (any_lasts xs t || any_lasts ys t)
lasts_append [] ys t = refl
lasts_append (x ∷ xs) ys t = ap (λ (b : Bool). lasts_past x t || b) (lasts_append xs ys t) ∙ or_grouped (lasts_past x t) (any_lasts xs t) (any_lasts ys t)

pub greatest_both : (l r : Option End) (xs ys : List Entry) → IsGreatest l xs → IsGreatest r ys → IsGreatest (greater_end l r) (xs ++ ys)
greatest_both l r xs ys g h t = rw (later_after l r t, g t, h t) (sym (lasts_append xs ys t))

-- ---- parts

set_one : (xs : List (Option End)) (x : Option End) → length xs ≡ 1 → set xs 0 x ≡ x ∷ []
set_one [] x h = absurd (omega arith)
set_one (y ∷ []) x h = refl
set_one (y ∷ (z ∷ zs)) x h = absurd (omega arith)

-- what was written is read
pub set_read : (here : List (Option End)) (x r : Option End) → length here ≡ 1 → r ≡ get_or (set here 0 x) 0 r → r ≡ x
set_read here x r one read = read ∙ ap (λ (xs : List (Option End)). get_or xs 0 r) (set_one here x one)

pub only_all : (es : List Entry) → flat_map only es ≡ es
only_all [] = refl
only_all (e ∷ es) = ap (λ (xs : List Entry). e ∷ xs) (only_all es)

module _ {A : Type 0} (f : A → List Entry) where
  pub parted : (m : ℕ) (xs : List A) → flat_map f xs ≡ flat_map f (take m xs) ++ flat_map f (drop m xs)
  parted m xs = ap (flat_map f) (sym (take-append-drop m xs)) ∙ flat_map-append f (take m xs) (drop m xs)

  pub greatest_halves : (xs left right : List A) (x l r : Option End) → left ≡ take (length xs / 2) xs → right ≡ drop (length xs / 2) xs → x ≡ greater_end l r → IsGreatest l (flat_map f left) → IsGreatest r (flat_map f right) → IsGreatest x (flat_map f xs)
  greatest_halves xs left right x l r s t k gl gr = rw (k, parted (length xs / 2) xs, ← s, ← t) (greatest_both l r (flat_map f left) (flat_map f right) gl gr)

  module _ (n : ℕ) (xs : List A) (gs : List (Option End)) (level : 0 < n) where
    pub left_short : length xs ≤ 2 ^ n → length (take (length xs / 2) xs) ≤ 2 ^ (n - 1)
    left_short h = let e : suc (n - 1) ≡ n = omega arith in rw (length-take-le (length xs / 2) xs (omega arith)) (half_left (n - 1) (length xs) (rw e h))

    pub right_short : length xs ≤ 2 ^ n → length (drop (length xs / 2) xs) ≤ 2 ^ (n - 1)
    right_short h = let e : suc (n - 1) ≡ n = omega arith in rw (length-drop (length xs / 2) xs) (half_right (n - 1) (length xs) (rw e h))

  module _ (few : ℕ) where
    pub tree_short : (n : ℕ) (xs : List A) (gs : List (Option End)) → length xs < 2 → IsTree f few n xs gs
    tree_short zero xs gs h = tt
    tree_short (suc n) xs gs h = λ lt. absurd (omega arith)

    pub tree_few : (n : ℕ) (xs : List A) (gs : List (Option End)) → length xs ≤ few → (1 < length xs → IsGreatest (get_or gs (length xs / 2 - 1) None) (flat_map f xs)) → IsTree f few n xs gs
    tree_few zero xs gs h g = tt
    tree_few (suc n) xs gs h g = λ lt. (g lt, λ more. absurd (omega arith))

    pub tree_at : (n : ℕ) (xs : List A) (gs : List (Option End)) → 0 < n → 1 < length xs → IsTree f few n xs gs → IsGreatest (get_or gs (length xs / 2 - 1) None) (flat_map f xs) × (few < length xs → IsTree f few (n - 1) (take (length xs / 2) xs) (take (length xs / 2 - 1) gs) × IsTree f few (n - 1) (drop (length xs / 2) xs) (drop (length xs / 2) gs))
    tree_at zero xs gs p lt t = absurd (omega arith)
    tree_at (suc h) xs gs p lt t = let e : suc h - 1 ≡ h = omega arith in rw e (t lt)

    tree_made : (n : ℕ) (xs : List A) (front back : List (Option End)) (x : Option End) → 0 < n → 1 < length xs → length front ≡ length xs / 2 - 1 → IsGreatest x (flat_map f xs) → IsTree f few (n - 1) (take (length xs / 2) xs) front → IsTree f few (n - 1) (drop (length xs / 2) xs) back → IsTree f few n xs (front ++ x ∷ back)
    tree_made zero xs front back x p two h g l r = absurd (omega arith)
    tree_made (suc n) xs front back x p two h g l r =
        let e : suc n - 1 ≡ n = omega arith in
        let l' = rw e at l in
        let r' = rw e at r in
        λ lt. (rw (get_or_at front x back None (length xs / 2 - 1) h) g, λ more. (rw (take_at front (x ∷ back) (length xs / 2 - 1) h) l', rw past r'))
      where
        past : drop (length xs / 2) (front ++ x ∷ back) ≡ back
        past = ap (drop (length xs / 2)) (sym (append_assoc front (x ∷ []) back)) ∙ drop_at (front ++ x ∷ []) back (length xs / 2) (length-append front (x ∷ []) ∙ (omega arith))

    pub tree_written : (n : ℕ) (xs left right : List A) (front here back : List (Option End)) (x l r : Option End) → 0 < n → 1 < length xs → left ≡ take (length xs / 2) xs → right ≡ drop (length xs / 2) xs → length front ≡ length xs / 2 - 1 → length here ≡ 1 → x ≡ greater_end l r → IsGreatest l (flat_map f left) → IsGreatest r (flat_map f right) → IsTree f few (n - 1) left front → IsTree f few (n - 1) right back → IsTree f few n xs (front ++ (set here 0 x ++ back))
    tree_written n xs left right front here back x l r p two s t h o k gl gr tl tr = rw (set_one here x o) (tree_made n xs front back x p two h (greatest_halves xs left right x l r s t k gl gr) (rw s at tl) (rw t at tr))

    -- a tree serves for as many levels as its length needs
    pub tree_levels : (h k : ℕ) (xs : List A) (gs : List (Option End)) → length xs ≤ 2 ^ h → IsTree f few h xs gs → IsTree f few k xs gs
    tree_levels zero k xs gs le t = tree_short k xs gs (omega arith)
    tree_levels (suc h) zero xs gs le t = tt
    tree_levels (suc h) (suc k) xs gs le t = λ lt. (
      (t lt).0,
      λ more. let parts = (t lt).1 more in (
        tree_levels h k (take (length xs / 2) xs) (take (length xs / 2 - 1) gs) (rw (length-take-le (length xs / 2) xs (omega arith)) (half_left h (length xs) le)) parts.0,
        tree_levels h k (drop (length xs / 2) xs) (drop (length xs / 2) gs) (rw (length-drop (length xs / 2) xs) (half_right h (length xs) le)) parts.1,
      ),
    )

    module _ (n : ℕ) (xs : List A) (gs : List (Option End)) (level : 0 < n) where
      -- the greatest end as it was read
      pub root_read : (t : ℤ) (g : Option End) (x : Bool) → 1 < length xs → length xs ≤ length gs + 1 → IsTree f few n xs gs → g ≡ get_or gs (length xs / 2 - 1) g → comes_after g t ≡ x → any_lasts (flat_map f xs) t ≡ x
      root_read t g x two lengths tree read h =
          let inside : length xs / 2 - 1 < length gs = omega arith in
          sym ((tree_at n xs gs level two tree).0 t) ∙ subst (λ (r : Option End). comes_after r t ≡ x) (get_or_read gs (length xs / 2 - 1) g inside read None) h

-- the same for entries
pub entries_read : (n : ℕ) (es : List Entry) (gs : List (Option End)) (t : ℤ) (g : Option End) (x : Bool) → 0 < n → 1 < length es → length es ≤ length gs + 1 → IsTree only 8 n es gs → g ≡ get_or gs (length es / 2 - 1) g → comes_after g t ≡ x → any_lasts es t ≡ x
entries_read n es gs t g x level two lengths tree read h = subst (λ (xs : List Entry). any_lasts xs t ≡ x) (only_all es) (root_read only 8 n es gs level t g x two lengths tree read h)
