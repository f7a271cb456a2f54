-- Places that are counted by their slots.
use Rattle.std.proofs.Common.{◌≡◌, ◌⊎◌, inl, inr, ℕ, ◌+◌, ◌≤◌, ◌==◌, ◌||◌, Bool, true, false, cond, List, [], ◌∷◌, ◌++◌, length, filter, sum_by, slice_get, Option, Some, None, refl, ap, sym, subst, ◌∙◌, arith, eqb-true, eq-eqb, ne_eqb}
use Rattle.std.specs.Prelude.{is_some, IfSome}
use Rattle.std.specs.Option.{option_map_or}
use Rattle.std.proofs.lemmas.Bool.{both_ways}
use Rattle.std.proofs.lemmas.List.Sums.{sum_by-cons, sum_by_push}
use Rattle.adr_shared.specs.Map.{put}
use Rattle.adr_seats.specs.Law.{has_slot, AllOfASlot, AreDistinct, NoMoreThanAll}
use Rattle.adr_seats.specs.Seats.{members_of}
use Rattle.adr_schedule.specs.declared.tally.SlotTally.{SlotTally}
use Rattle.adr_schedule.specs.Moves.{is_among}
use Rattle.adr_schedule.specs.Slots.{in_slot, is_taken}
use Rattle.adr_schedule.specs.Tally.{AreAllOf, AreRising, HasSeen, IsBelowFirst, IsTallied}
use Rattle.adr_schedule.proofs.Numbered.{has_place, one_or_other, put_elsewhere, put_here}
use Rattle.adr_schedule.proofs.Seated.{none_is_some, some_same}

-- ---- places that rise are distinct

below_others : (p : ℕ) (ps : List ℕ) → IsBelowFirst p ps → AreRising ps → is_among ps p ≡ false
below_others p [] low rising = refl
below_others p (q ∷ qs) low rising = by qs rising (below_others p qs)
  where
    lower : (rs : List ℕ) → IsBelowFirst q rs → IsBelowFirst p rs
    lower [] h = tt
    lower (r ∷ rs) h = omega (arith, low, h)

    by : (rs : List ℕ) → IsBelowFirst q rs × AreRising rs → (IsBelowFirst p rs → AreRising rs → is_among rs p ≡ false) → ((q == p) || is_among rs p) ≡ false
    by rs h later = ap (λ b. b || is_among rs p) (ne_eqb q p (λ e. omega (arith, e, low))) ∙ later (lower rs h.0) h.1

pub rising_distinct : (ps : List ℕ) → AreRising ps → AreDistinct ps
rising_distinct [] rising = tt
rising_distinct (p ∷ ps) rising = (below_others p ps rising.0 rising.1, rising_distinct ps rising.1)

-- ---- one slot more

among_last : (slots : List ℕ) (slot s : ℕ) → is_among (slots ++ slot ∷ []) s ≡ (is_among slots s || (slot == s))
among_last [] slot s = by (slot == s)
  where
    by : (b : Bool) → (b || false) ≡ b
    by true = refl
    by false = refl
among_last (t ∷ slots) slot s = by (t == s) (among_last slots slot s)
  where
    by : (b : Bool) → is_among (slots ++ slot ∷ []) s ≡ (is_among slots s || (slot == s)) → (b || is_among (slots ++ slot ∷ []) s) ≡ ((b || is_among slots s) || (slot == s))
    by true h = refl
    by false h = h

or_left : (a b : Bool) → a ≡ true → (a || b) ≡ true
or_left true b h = refl
or_left false b h = absurd (cc)

or_right : (a b : Bool) → b ≡ true → (a || b) ≡ true
or_right true b h = refl
or_right false b h = h

or_case : (a b : Bool) → (a || b) ≡ true → (a ≡ true) ⊎ (b ≡ true)
or_case true b h = inl refl
or_case false b h = inr h

distinct_last : (slots : List ℕ) (slot : ℕ) → AreDistinct slots → is_among slots slot ≡ false → AreDistinct (slots ++ slot ∷ [])
distinct_last [] slot once new = (refl, tt)
distinct_last (t ∷ slots) slot once new = by (t == slot) refl new (λ h. distinct_last slots slot once.1 h)
  where
    by : (b : Bool) → (t == slot) ≡ b → (b || is_among slots slot) ≡ false → (is_among slots slot ≡ false → AreDistinct (slots ++ slot ∷ []))
        → (is_among (slots ++ slot ∷ []) t ≡ false) × AreDistinct (slots ++ slot ∷ [])
    by true e h rest = absurd (cc)
    by false e h rest =
        (among_last slots slot t ∙ ap (λ b. b || (slot == t)) once.0 ∙ ne_eqb slot t (λ same. both_ways (t == slot) e (eq-eqb t slot (sym same))), rest h)

-- ---- one place after the other

module _ (places more seats : List ℕ) (place : ℕ) (seen : List (List ℕ × ℕ)) (tally : SlotTally) (known : HasSeen seen tally) (before : IsTallied places (place ∷ more) seats tally) where
  -- a place without a slot
  pub lost : (after : SlotTally) → after.slots.items ≡ tally.slots.items → after.left ≡ None → IsTallied places more seats after
  lost after same none = record {
    once = subst (λ l. AreDistinct l) (sym same) before.once;
    taken = λ s m. before.taken s (subst (λ l. is_among l s ≡ true) same m);
    count = λ left h. absurd (none_is_some left (sym none ∙ h));
    found = λ left h. absurd (none_is_some left (sym none ∙ h));
  }

  found_more : (slots : List ℕ) (slot : ℕ) → slice_get seats place ≡ Some slot → is_among slots slot ≡ true → ((s : ℕ) → is_among tally.slots.items s ≡ true → is_among slots s ≡ true)
      → (p : ℕ) → (is_among (place ∷ more) p ≡ true) ⊎ ((s : ℕ) × (slice_get seats p ≡ Some s) × (is_among tally.slots.items s ≡ true))
      → (is_among more p ≡ true) ⊎ ((s : ℕ) × (slice_get seats p ≡ Some s) × (is_among slots s ≡ true))
  found_more slots slot at here grows p (inr (s, k, m)) = inr (s, k, grows s m)
  found_more slots slot at here grows p (inl left) = by (or_case (place == p) (is_among more p) left)
    where
      by : ((place == p) ≡ true) ⊎ (is_among more p ≡ true) → (is_among more p ≡ true) ⊎ ((s : ℕ) × (slice_get seats p ≡ Some s) × (is_among slots s ≡ true))
      by (inl e) = inr (slot, subst (λ z. slice_get seats z ≡ Some slot) (eqb-true place p e) at, here)
      by (inr h) = inl h

  -- a slot that was seen
  pub seen_again : (slot t : ℕ) → slice_get seats place ≡ Some slot → in_slot seen slot ≡ Some t → IsTallied places more seats tally
  seen_again slot t at there = record {
    once = before.once;
    taken = before.taken;
    count = before.count;
    found = λ left h p m. found_more tally.slots.items slot at (known slot ∙ ap (λ o. is_some o) there) (λ s k. k) p (before.found left h p m);
  }

  -- a slot that is new
  module _ (slot : ℕ) (at : slice_get seats place ≡ Some slot) (new : in_slot seen slot ≡ None) (after : SlotTally) (pushed : after.slots.items ≡ tally.slots.items ++ slot ∷ [])
      (less : IfSome after.left (λ left. tally.left ≡ Some (left + members_of slot seats))) where
    grows : (s : ℕ) → is_among tally.slots.items s ≡ true → is_among after.slots.items s ≡ true
    grows s m = ap (λ l. is_among l s) pushed ∙ among_last tally.slots.items slot s ∙ or_left (is_among tally.slots.items s) (slot == s) m

    here : is_among after.slots.items slot ≡ true
    here = ap (λ l. is_among l slot) pushed ∙ among_last tally.slots.items slot slot ∙ or_right (is_among tally.slots.items slot) (slot == slot) (eq-eqb slot slot refl)

    was_left : (left : ℕ) → after.left ≡ Some left → tally.left ≡ Some (left + members_of slot seats)
    was_left left h = by after.left h less
      where
        by : (o : Option ℕ) → o ≡ Some left → IfSome o (λ n. tally.left ≡ Some (n + members_of slot seats)) → tally.left ≡ Some (left + members_of slot seats)
        by None e k = absurd (none_is_some left e)
        by (Some n) e k = subst (λ x. tally.left ≡ Some (x + members_of slot seats)) (some_same n left e) k

    pub seen_first : IsTallied places more seats after
    seen_first = record {
      once = subst (λ l. AreDistinct l) (sym pushed) (distinct_last tally.slots.items slot before.once (known slot ∙ ap (λ o. is_some o) new));
      taken = λ s m. taken s (or_case (is_among tally.slots.items s) (slot == s) (sym (among_last tally.slots.items slot s) ∙ subst (λ l. is_among l s ≡ true) pushed m));
      count = λ left h. count left (before.count (left + members_of slot seats) (was_left left h));
      found = λ left h p m. found_more after.slots.items slot at here grows p (before.found (left + members_of slot seats) (was_left left h) p m);
    }
      where
        taken : (s : ℕ) → (is_among tally.slots.items s ≡ true) ⊎ ((slot == s) ≡ true) → is_taken seats s ≡ true
        taken s (inl m) = before.taken s m
        taken s (inr e) = subst (λ z. is_taken seats z ≡ true) (eqb-true slot s e) (has_place seats place slot at)

        count : (left : ℕ) → (left + members_of slot seats) + sum_by (λ s. members_of s seats) tally.slots.items ≡ length places → left + sum_by (λ s. members_of s seats) after.slots.items ≡ length places
        count left h =
            let parts = ap (sum_by (λ s. members_of s seats)) pushed ∙ sum_by_push (λ s. members_of s seats) tally.slots.items slot in
            omega (arith, h, parts)

or_none : (b : Bool) → (b || false) ≡ b
or_none true = refl
or_none false = refl

-- the slots that were seen stay those of the tally
pub seen_then : (seen later : List (List ℕ × ℕ)) (tally after : SlotTally) (slot : ℕ) → later ≡ put (slot ∷ []) slot seen → after.slots.items ≡ tally.slots.items ++ slot ∷ []
    → HasSeen seen tally → HasSeen later after
seen_then seen later tally after slot added pushed known s =
    ap (λ l. is_among l s) pushed ∙ among_last tally.slots.items slot s ∙ by (one_or_other s slot) ∙ ap (λ m. is_some (in_slot m s)) (sym added)
  where
    by : (s ≡ slot) ⊎ (s ≡ slot → ⊥) → (is_among tally.slots.items s || (slot == s)) ≡ is_some (in_slot (put (slot ∷ []) slot seen) s)
    by (inl e) =
        or_right (is_among tally.slots.items s) (slot == s) (eq-eqb slot s (sym e))
        ∙ sym (ap (λ o. is_some o) (ap (λ z. in_slot (put (slot ∷ []) slot seen) z) e ∙ put_here seen slot slot))
    by (inr apart) =
        ap (λ b. is_among tally.slots.items s || b) (ne_eqb slot s (λ e. apart (sym e))) ∙ or_none (is_among tally.slots.items s) ∙ known s
        ∙ sym (ap (λ o. is_some o) (put_elsewhere seen slot s slot apart))

-- ---- all places of the slots

-- so many places have the slot
abbrev having : List ℕ → List ℕ → ℕ → ℕ
having seats places slot = length (filter (has_slot seats slot) places)

no_sum : {X : Type 0} (xs : List X) → sum_by (λ x. 0) xs ≡ 0
no_sum [] = refl
no_sum (x ∷ xs) = let r = no_sum xs in let p = sum_by-cons (λ y. 0) x xs in omega (arith, r, p)

sum_both : (f g h : ℕ → ℕ) (xs : List ℕ) → ((x : ℕ) → h x ≡ f x + g x) → sum_by h xs ≡ sum_by f xs + sum_by g xs
sum_both f g h [] each = refl
sum_both f g h (x ∷ xs) each =
    let r = sum_both f g h xs each in
    let a = sum_by-cons f x xs in
    let b = sum_by-cons g x xs in
    let c = sum_by-cons h x xs in
    let e = each x in
    omega (arith, r, a, b, c, e)

-- a slot that is not among distinct slots is none of them, and one that is is just one
sum_apart : (t : ℕ) (slots : List ℕ) → is_among slots t ≡ false → sum_by (λ s. cond (t == s) 1 0) slots ≡ 0
sum_apart t [] apart = refl
sum_apart t (s ∷ slots) apart = by (s == t) refl apart (λ h. sum_apart t slots h)
  where
    by : (b : Bool) → (s == t) ≡ b → (b || is_among slots t) ≡ false → (is_among slots t ≡ false → sum_by (λ s. cond (t == s) 1 0) slots ≡ 0) → sum_by (λ s. cond (t == s) 1 0) (s ∷ slots) ≡ 0
    by true e h later = absurd (cc)
    by false e h later =
        let other : ◌≡◌ {A = ℕ} (cond (t == s) 1 0) 0 = ap {B = ℕ} (λ b. cond b 1 0) (ne_eqb t s (λ same. both_ways (s == t) e (eq-eqb s t (sym same)))) in
        let parts = sum_by-cons (λ s. cond (t == s) 1 0) s slots in
        let rest = later h in
        omega (arith, other, parts, rest)

sum_one : (t : ℕ) (slots : List ℕ) → AreDistinct slots → is_among slots t ≡ true → sum_by (λ s. cond (t == s) 1 0) slots ≡ 1
sum_one t [] once m = absurd (cc)
sum_one t (s ∷ slots) once m = by (s == t) refl m (λ h. sum_one t slots once.1 h)
  where
    by : (b : Bool) → (s == t) ≡ b → (b || is_among slots t) ≡ true → (is_among slots t ≡ true → sum_by (λ s. cond (t == s) 1 0) slots ≡ 1) → sum_by (λ s. cond (t == s) 1 0) (s ∷ slots) ≡ 1
    by true e h later =
        let same = eqb-true s t e in
        let own : ◌≡◌ {A = ℕ} (cond (t == s) 1 0) 1 = ap {B = ℕ} (λ b. cond b 1 0) (eq-eqb t s (sym same)) in
        let rest = sum_apart t slots (subst (λ z. is_among slots z ≡ false) same once.0) in
        let parts = sum_by-cons (λ s. cond (t == s) 1 0) s slots in
        omega (arith, own, rest, parts)
    by false e h later =
        let other : ◌≡◌ {A = ℕ} (cond (t == s) 1 0) 0 = ap {B = ℕ} (λ b. cond b 1 0) (ne_eqb t s (λ same. both_ways (s == t) e (eq-eqb s t (sym same)))) in
        let rest = later h in
        let parts = sum_by-cons (λ s. cond (t == s) 1 0) s slots in
        omega (arith, other, rest, parts)

-- what has the same sum, and is nowhere more, is the same
same_parts : (f g : ℕ → ℕ) (xs : List ℕ) → ((x : ℕ) → f x ≤ g x) → sum_by f xs ≡ sum_by g xs → (x : ℕ) → is_among xs x ≡ true → f x ≡ g x
same_parts f g [] less same x m = absurd (cc)
same_parts f g (y ∷ xs) less same x m = by (or_case (y == x) (is_among xs x) m) (λ h. same_parts f g xs less rest x h)
  where
    no_more : (ys : List ℕ) → sum_by f ys ≤ sum_by g ys
    no_more [] = omega arith
    no_more (z ∷ ys) =
        let r = no_more ys in
        let a = sum_by-cons f z ys in
        let b = sum_by-cons g z ys in
        let e = less z in
        omega (arith, r, a, b, e)

    here : f y ≡ g y
    here =
        let r = no_more xs in
        let a = sum_by-cons f y xs in
        let b = sum_by-cons g y xs in
        let e = less y in
        omega (arith, r, a, b, e, same)

    rest : sum_by f xs ≡ sum_by g xs
    rest =
        let a = sum_by-cons f y xs in
        let b = sum_by-cons g y xs in
        let e = here in
        omega (arith, a, b, e, same)

    by : ((y == x) ≡ true) ⊎ (is_among xs x ≡ true) → (is_among xs x ≡ true → f x ≡ g x) → f x ≡ g x
    by (inl e) later = subst (λ z. f z ≡ g z) (eqb-true y x e) here
    by (inr h) later = later h

module _ (seats slots : List ℕ) (once : AreDistinct slots) where
  -- places that each have one of the slots are as many as have them
  parted : (places : List ℕ) → ((p : ℕ) → is_among places p ≡ true → (s : ℕ) × (slice_get seats p ≡ Some s) × (is_among slots s ≡ true))
      → sum_by (having seats places) slots ≡ length places
  parted [] found = no_sum slots
  parted (p ∷ places) found =
      let own = found p (or_left (p == p) (is_among places p) (eq-eqb p p refl)) in
      let one = sum_one own.0 slots once own.2 in
      let rest = parted places (λ q m. found q (or_right (p == q) (is_among places q) m)) in
      let both = sum_both (λ s. cond (own.0 == s) 1 0) (having seats places) (having seats (p ∷ places)) slots (λ s. each own.0 own.1 s) in
      omega (arith, one, rest, both)
    where
      each : (t : ℕ) → slice_get seats p ≡ Some t → (s : ℕ) → having seats (p ∷ places) s ≡ cond (t == s) 1 0 + having seats places s
      each t at s = by (t == s) (ap (λ o. option_map_or (λ x. x == s) o false) at)
        where
          by : (b : Bool) → has_slot seats s p ≡ b → having seats (p ∷ places) s ≡ cond b 1 0 + having seats places s
          by true e = rw e (omega arith)
          by false e = rw e (omega arith)

-- where no place is left beyond all that have the slots, the places are those
pub all_of : AllOfASlot → NoMoreThanAll → (seats places : List ℕ) (tally : SlotTally) → AreDistinct places → IsTallied places [] seats tally → tally.left ≡ Some 0 → AreAllOf seats places tally.slots.items
all_of all bound seats places tally distinct t none = record {
  each = λ p s at. same p s at;
  taken = t.taken;
}
  where
    found : (p : ℕ) → is_among places p ≡ true → (s : ℕ) × (slice_get seats p ≡ Some s) × (is_among tally.slots.items s ≡ true)
    found p m = by (t.found 0 none p m)
      where
        by : (is_among [] p ≡ true) ⊎ ((s : ℕ) × (slice_get seats p ≡ Some s) × (is_among tally.slots.items s ≡ true)) → (s : ℕ) × (slice_get seats p ≡ Some s) × (is_among tally.slots.items s ≡ true)
        by (inl h) = absurd (cc)
        by (inr h) = h

    as_many : (s : ℕ) → is_among tally.slots.items s ≡ true → having seats places s ≡ members_of s seats
    as_many =
        let count = t.count 0 none in
        let parts = parted seats tally.slots.items t.once places found in
        same_parts (having seats places) (λ s. members_of s seats) tally.slots.items (λ s. bound seats s places distinct) (omega (arith, count, parts))

    same : (p s : ℕ) → slice_get seats p ≡ Some s → is_among tally.slots.items s ≡ is_among places p
    same p s at = by (is_among tally.slots.items s) (is_among places p) refl refl
      where
        by : (a b : Bool) → is_among tally.slots.items s ≡ a → is_among places p ≡ b → a ≡ b
        by true true h k = refl
        by false false h k = refl
        by true false h k = sym (all seats s places distinct (as_many s h) p at) ∙ k
        by false true h k =
            let f = found p k in
            let one : f.0 ≡ s = some_same f.0 s (sym f.1 ∙ at) in
            sym h ∙ subst (λ z. is_among tally.slots.items z ≡ true) one f.2
