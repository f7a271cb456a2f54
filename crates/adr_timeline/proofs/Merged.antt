-- Two lists of steps merged into one.
use Rattle.std.proofs.Common.{◌≡◌, ℕ, suc, ◌+◌, ◌*◌, ◌-◌, ◌<◌, ◌≤◌, Bool, true, false, List, [], ◌∷◌, ◌++◌, length, take, drop, get_or, slice_get, Option, Some, None, refl, sym, ◌∙◌, ap, arith, ℤ, pos, ◌≤ℤ◌, ◌<ℤ◌, int_le, int_lt, inl, inr}
use Rattle.std.proofs.Math.Nat.{lt_of_not-le}
use Rattle.std.proofs.lemmas.Int.{ints, by_lt_z}
use Rattle.std.proofs.lemmas.Bool.{cases_Bool, false≢true}
use Rattle.std.proofs.lemmas.List.{append_assoc, append-nil, drop_more, drop_all, length-append, length-drop, take_all}
use Rattle.std.proofs.lemmas.Option.{get_or_from_slice_get, none-some, same_Some, slice_get_within}
use Rattle.adr_model.specs.declared.entry.Rank.{Rank}
use Rattle.adr_timeline.specs.declared.step.RankStep.{RankStep}
use Rattle.adr_timeline.specs.Steps.{lesser, rank_from, rise, rises, IsFrom, IsInOrder, IsMergeOf, IsStepTo, goes_left}

-- the steps are those of both lists, from the ranks before them on
pub record IsMerge (a b : Option Rank) (left right steps : List RankStep) : Type 0 where
  pub ranks : (v : ℤ) → IsFrom v left → IsFrom v right → (t : ℤ) → rank_from (lesser a b) steps t ≡ lesser (rank_from a left t) (rank_from b right t)
  pub order : (v : ℤ) → IsFrom v left → IsFrom v right → IsFrom v steps
  pub count : length steps ≤ length left + length right

pub merge_none : (a b : Option Rank) → IsMerge a b [] [] []
merge_none a b = record { ranks = λ v l r t. refl; order = λ v l r. tt; count = omega arith }

le_self : (u : ℤ) → u ≤ℤ u
le_self u = omega (arith, ints)

earlier_too : (t u v : ℤ) → int_le u v ≡ true → int_lt t u ≡ true → int_lt t v ≡ true
earlier_too t u v h k = grind (arith, ints)

earlier_than : (t u v : ℤ) → int_le u v ≡ false → int_lt t v ≡ true → int_lt t u ≡ true
earlier_than t u v h k = grind (arith, ints)

before_too : (t u v : ℤ) → u ≤ℤ v → int_lt t u ≡ true → int_lt t v ≡ true
before_too t u v h k = grind (arith, ints)

no_later : (t u v : ℤ) → t ≤ℤ u → u ≤ℤ v → t ≤ℤ v
no_later t u v h k = omega (arith, ints, h, k)

le_of : (u v : ℤ) → int_le u v ≡ true → u ≤ℤ v
le_of u v h = grind (arith, ints)

ge_of : (u v : ℤ) → int_le u v ≡ false → v ≤ℤ u
ge_of u v h = grind (arith, ints)

right_waits : (b : Option Rank) (x : RankStep) (xs right : List RankStep) (t : ℤ) → goes_left (x ∷ xs) right ≡ true → int_lt t x.from ≡ true → rank_from b right t ≡ b
right_waits b x xs [] t g h = refl
right_waits b x xs (y ∷ ys) t g h = rw (earlier_too t x.from y.from g h)

left_waits : (a : Option Rank) (y : RankStep) (left ys : List RankStep) (t : ℤ) → goes_left left (y ∷ ys) ≡ false → int_lt t y.from ≡ true → rank_from a left t ≡ a
left_waits a y [] ys t g h = refl
left_waits a y (x ∷ xs) ys t g h = rw (earlier_than t x.from y.from g h)

right_from : (x : RankStep) (xs right : List RankStep) (v : ℤ) → goes_left (x ∷ xs) right ≡ true → IsFrom v right → IsFrom x.from right
right_from x xs [] v g r = tt
right_from x xs (y ∷ ys) v g r = (le_of x.from y.from g, r.1)

left_from : (y : RankStep) (left ys : List RankStep) (v : ℤ) → goes_left left (y ∷ ys) ≡ false → IsFrom v left → IsFrom y.from left
left_from y [] ys v g l = tt
left_from y (x ∷ xs) ys v g l = (ge_of x.from y.from g, l.1)

-- steps that begin later show nothing new yet
waits : (a : Option Rank) (u : ℤ) (steps : List RankStep) (t : ℤ) → IsFrom u steps → int_lt t u ≡ true → rank_from a steps t ≡ a
waits a u [] t h lt = refl
waits a u (s ∷ ss) t h lt = rw (before_too t u s.from h.0 lt)

from_earlier : (v u : ℤ) (steps : List RankStep) → v ≤ℤ u → IsFrom u steps → IsFrom v steps
from_earlier v u [] le h = tt
from_earlier v u (s ∷ ss) le h = (no_later v u s.from le h.0, h.1)

-- the next step is the left list's
pub merge_left : (a b r : Option Rank) (x : RankStep) (left right steps : List RankStep) → goes_left (x ∷ left) right ≡ true → r ≡ lesser x.rank b → IsMerge x.rank b left right steps → IsMerge a b (x ∷ left) right (record { from = x.from; rank = r } ∷ steps)
merge_left a b r x left right steps g is m = rw is (record {
  ranks = λ v l r t. elim (cases_Bool (int_lt t x.from)) [
    | inl early ↦ rw (early, right_waits b x left right t g early)
    | inr late ↦ rw late (m.ranks x.from l.1 (right_from x left right v g r) t)
  ];
  order = λ v l r. (l.0, m.order x.from l.1 (right_from x left right v g r));
  count = omega (arith, m.count);
})

-- the next step is the right list's
pub merge_right : (a b r : Option Rank) (y : RankStep) (left right steps : List RankStep) → goes_left left (y ∷ right) ≡ false → r ≡ lesser a y.rank → IsMerge a y.rank left right steps → IsMerge a b left (y ∷ right) (record { from = y.from; rank = r } ∷ steps)
merge_right a b r y left right steps g is m = rw is (record {
  ranks = λ v l r t. elim (cases_Bool (int_lt t y.from)) [
    | inl early ↦ rw (early, left_waits a y left right t g early)
    | inr late ↦ rw late (m.ranks y.from (left_from y left right v g l) r.1 t)
  ];
  order = λ v l r. (r.0, m.order y.from (left_from y left right v g l) r.1);
  count = omega (arith, m.count);
})

-- the next step is the left list's, and changes nothing
pub merge_left_same : (a b : Option Rank) (x : RankStep) (left right steps : List RankStep) → goes_left (x ∷ left) right ≡ true → lesser x.rank b ≡ lesser a b → IsMerge x.rank b left right steps → IsMerge a b (x ∷ left) right steps
merge_left_same a b x left right steps g same m = record {
  ranks = λ v l r t. elim (cases_Bool (int_lt t x.from)) [
    | inl early ↦ rw (early, right_waits b x left right t g early, waits (lesser a b) x.from steps t (m.order x.from l.1 (right_from x left right v g r)) early)
    | inr late ↦ rw (late, sym same) (m.ranks x.from l.1 (right_from x left right v g r) t)
  ];
  order = λ v l r. m.order v (from_earlier v x.from left l.0 l.1) r;
  count = omega (arith, m.count);
}

-- the next step is the right list's, and changes nothing
pub merge_right_same : (a b : Option Rank) (y : RankStep) (left right steps : List RankStep) → goes_left left (y ∷ right) ≡ false → lesser a y.rank ≡ lesser a b → IsMerge a y.rank left right steps → IsMerge a b left (y ∷ right) steps
merge_right_same a b y left right steps g same m = record {
  ranks = λ v l r t. elim (cases_Bool (int_lt t y.from)) [
    | inl early ↦ rw (early, left_waits a y left right t g early, waits (lesser a b) y.from steps t (m.order y.from (left_from y left right v g l) r.1) early)
    | inr late ↦ rw (late, sym same) (m.ranks y.from (left_from y left right v g l) r.1 t)
  ];
  order = λ v l r. m.order v l (from_earlier v y.from right r.0 r.1);
  count = omega (arith, m.count);
}

-- the step to the next rank comes before what is left
pub stepped_left : (a b r : Option Rank) (x : RankStep) (left right added steps : List RankStep) → goes_left (x ∷ left) right ≡ true → r ≡ lesser x.rank b → IsStepTo (lesser a b) x.from r added → IsMerge x.rank b left right steps → IsMerge a b (x ∷ left) right (added ++ steps)
stepped_left a b r x left right added steps g is (inl step) m = rw step.0 (merge_left a b r x left right steps g is m)
stepped_left a b r x left right added steps g is (inr step) m = rw step.0 (merge_left_same a b x left right steps g (sym is ∙ step.1) m)

pub stepped_right : (a b r : Option Rank) (y : RankStep) (left right added steps : List RankStep) → goes_left left (y ∷ right) ≡ false → r ≡ lesser a y.rank → IsStepTo (lesser a b) y.from r added → IsMerge a y.rank left right steps → IsMerge a b left (y ∷ right) (added ++ steps)
stepped_right a b r y left right added steps g is (inl step) m = rw step.0 (merge_right a b r y left right steps g is m)
stepped_right a b r y left right added steps g is (inr step) m = rw step.0 (merge_right_same a b y left right steps g (sym is ∙ step.1) m)

-- ---- one turn, as the code makes it

abbrev pub no_step : RankStep
no_step = record { from = pos 0; rank = None }

-- no more steps lead up than there are
pub rises_few : (ss : List RankStep) → rises ss ≤ length ss
rises_few [] = omega arith
rises_few (s ∷ ss) = by s.rank (rises_few ss)
  where
    by : {a b : ℕ} (r : Option Rank) → a ≤ b → rise r + a ≤ suc b
    by None h = omega (arith, h)
    by (Some r) h = omega (arith, h)

-- two are compared only where both are there
pub both_rise : (a b : Option Rank) → (rise a * rise b ≤ rise a) × (rise a * rise b ≤ rise b)
both_rise None None = (omega arith, omega arith)
both_rise None (Some b) = (omega arith, omega arith)
both_rise (Some a) None = (omega arith, omega arith)
both_rise (Some a) (Some b) = (omega arith, omega arith)

-- what is done so far, whatever completes it
pub record IsBegun (whole_left whole_right done : List RankStep) (a b : Option Rank) (i j now start : ℕ) : Type 0 where
  pub left_in : i ≤ length whole_left
  pub right_in : j ≤ length whole_right
  pub completes : (rest : List RankStep) → IsMerge a b (drop i whole_left) (drop j whole_right) rest → IsMerge None None whole_left whole_right (done ++ rest)
  pub compared : now + (rises (drop i whole_left) + rises (drop j whole_right)) ≤ start + (rises whole_left + rises whole_right)

-- a step that is taken is the first of those that are left
taken : (xs : List RankStep) (i : ℕ) (x : RankStep) → i < length xs → x ≡ get_or xs i x → drop i xs ≡ x ∷ drop (i + 1) xs
taken xs i x lt h = drop_more xs i x lt ∙ ap (λ (y : RankStep). y ∷ drop (i + 1) xs) (sym h)

module _ (left right done added new : List RankStep) (a b r : Option Rank) (i j now later start : ℕ) (x : RankStep) (so_far : IsBegun left right done a b i j now start) (grown : new ≡ done ++ added) (step : IsStepTo (lesser a b) x.from r added) where
  one_more : (rest : List RankStep) → new ++ rest ≡ done ++ (added ++ rest)
  one_more rest = rw grown (append_assoc done added rest)

  pub turn_left : i < length left → x ≡ get_or left i x → goes_left (drop i left) (drop j right) ≡ true → r ≡ lesser x.rank b → later ≤ now + rise x.rank * rise b → IsBegun left right new x.rank b (i + 1) j later start
  turn_left lt h g is cost = record {
    left_in = omega arith;
    right_in = so_far.right_in;
    completes = λ rest m. rw (one_more rest) (so_far.completes (added ++ rest)
        (rw (taken left i x lt h) (stepped_left a b r x (drop (i + 1) left) (drop j right) added rest (rw (taken left i x lt h) at g) is step m)));
    compared = omega (arith, so_far.compared, cost, (both_rise x.rank b).0, ap rises (taken left i x lt h));
  }

  pub turn_right : j < length right → x ≡ get_or right j x → goes_left (drop i left) (drop j right) ≡ false → r ≡ lesser a x.rank → later ≤ now + rise a * rise x.rank → IsBegun left right new a x.rank i (j + 1) later start
  turn_right lt h g is cost = record {
    left_in = so_far.left_in;
    right_in = omega arith;
    completes = λ rest m. rw (one_more rest) (so_far.completes (added ++ rest)
        (rw (taken right j x lt h) (stepped_right a b r x (drop i left) (drop (j + 1) right) added rest (rw (taken right j x lt h) at g) is step m)));
    compared = omega (arith, so_far.compared, cost, (both_rise a x.rank).1, ap rises (taken right j x lt h));
  }

-- with the next step no more is compared
module _ (left right done : List RankStep) (a b : Option Rank) (i j now start : ℕ) (x : RankStep) (so_far : IsBegun left right done a b i j now start) where
  pub over_left : (later : ℕ) → i < length left → x ≡ get_or left i x → later ≤ now + rise x.rank * rise b → later ≤ start + (rises left + rises right)
  over_left later lt h cost = omega (arith, so_far.compared, cost, (both_rise x.rank b).0, ap rises (taken left i x lt h))

  pub over_right : (later : ℕ) → j < length right → x ≡ get_or right j x → later ≤ now + rise a * rise x.rank → later ≤ start + (rises left + rises right)
  over_right later lt h cost = omega (arith, so_far.compared, cost, (both_rise a x.rank).1, ap rises (taken right j x lt h))

-- an instant from which both lists are in order
both_from : (left right : List RankStep) → IsInOrder left → IsInOrder right → (v : ℤ) × IsFrom v left × IsFrom v right
both_from [] [] l r = (pos 0, tt, tt)
both_from [] (y ∷ ys) l r = (y.from, tt, (le_self y.from, r))
both_from (x ∷ xs) [] l r = (x.from, (le_self x.from, l), tt)
both_from (x ∷ xs) (y ∷ ys) l r = by_lt_z x.from y.from
    (λ lt. (x.from, (le_self x.from, l), (below x.from y.from lt, r)))
    (λ ge. (y.from, (ge, l), (le_self y.from, r)))
  where
    below : (u v : ℤ) → u <ℤ v → u ≤ℤ v
    below u v h = omega (arith, ints)

in_order : (v : ℤ) (steps : List RankStep) → IsFrom v steps → IsInOrder steps
in_order v [] h = tt
in_order v (s ∷ ss) h = h.1

-- what is merged from the start
pub merged_whole : (left right steps : List RankStep) → IsMerge None None left right steps → IsInOrder left → IsInOrder right → IsMergeOf left right steps
merged_whole left right steps merge in_left in_right =
    let from = both_from left right in_left in_right in
    (in_order from.0 steps (merge.order from.0 from.1 from.2), merge.count, merge.ranks from.0 from.1 from.2)

-- all is done
pub merge_done : (left right done : List RankStep) (a b : Option Rank) (i j now start : ℕ) → IsBegun left right done a b i j now start → length left ≤ i → length right ≤ j → IsInOrder left → IsInOrder right → IsMergeOf left right done
merge_done left right done a b i j now start so_far l r in_left in_right =
    let none : IsMerge a b (drop i left) (drop j right) [] = rw (drop_all i left l, drop_all j right r) (merge_none a b) in
    merged_whole left right done (rw (append-nil done) at (so_far.completes [] none)) in_left in_right

pub added_more : (old out new done added : List RankStep) → out ≡ old ++ done → new ≡ out ++ added → new ≡ old ++ (done ++ added)
added_more old out new done added h n = rw (n, h) (append_assoc old done added)

-- the first steps of both decide
pub first_left : (left right : List RankStep) (j : ℕ) (x y : RankStep) → Some x ≡ slice_get left 0 → slice_get right j ≡ Some y → int_le x.from y.from ≡ goes_left left (drop j right)
first_left [] right j x y h k = absurd (none-some x (sym h))
first_left (z ∷ left) right j x y h k = rw (drop_more right j y (slice_get_within right j y k), get_or_from_slice_get right j y y k) (ap (λ (s : RankStep). int_le s.from y.from) (same_Some x z h))

-- there is a next step
pub left_there : (left right : List RankStep) (i j : ℕ) → goes_left (drop i left) (drop j right) ≡ true → j < length right → i < length left
left_there left right i j g lt = lt_of_not-le (λ le. false≢true (rw (drop_all i left le, drop_more right j no_step lt) at g))

pub right_there : (left right : List RankStep) (i j : ℕ) → goes_left (drop i left) (drop j right) ≡ false → j < length right
right_there left right i j g = lt_of_not-le (λ le. false≢true (sym (rw (drop_all j right le) at g)))

-- a slice from a place on is what is left there
rest_is : (xs : List RankStep) (i : ℕ) → take (length xs - i) (drop i xs) ≡ drop i xs
rest_is xs i = take_all (length xs - i) (drop i xs) (rw (length-drop i xs) (omega arith))

pub goes_rest : (left right : List RankStep) (i : ℕ) (x : Bool) → x ≡ goes_left (take (length left - i) (drop i left)) right → x ≡ goes_left (drop i left) right
goes_rest left right i x h = rw (rest_is left i) at h

pub begun_at : (left right done : List RankStep) (a a' b b' : Option Rank) (i i' j j' now start : ℕ) → a ≡ a' → b ≡ b' → i ≡ i' → j ≡ j' → IsBegun left right done a' b' i' j' now start → IsBegun left right done a b i j now start
begun_at left right done a a' b b' i i' j j' now start p q r s m = rw (p, q, r, s) m
