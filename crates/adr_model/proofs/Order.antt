-- The order of ranks: it is strict and total, and passes on.
use Rattle.std.proofs.Common.{◌≡◌, ℕ, ℤ, Bool, true, false, ◌==◌, ◌&&◌, ◌||◌, nat_lt, arith, refl, sym}
use Rattle.std.specs.Prelude.{int_lt}
use Rattle.std.specs.Ordering.{int_eq}
use Rattle.std.proofs.lemmas.Bool.{false≢true}
use Rattle.std.proofs.lemmas.Bool.Decides.{nat_tests}
use Rattle.std.proofs.lemmas.Int.{ints}
use Rattle.adr_model.specs.declared.entry.Rank.{Rank}
use Rattle.adr_model.specs.Rank.{breaks_tie, goes_before}

pub none_goes_before_itself : (a : Rank) → goes_before a a ≡ false
none_goes_before_itself a = grind (arith, ints)

pub not_both_ways : (a b : Rank) → goes_before a b ≡ true → goes_before b a ≡ false
not_both_ways a b h = grind (arith, ints, nat_tests)

-- an order by a number and then by another order: what goes before passes on where it does in that one
number_passes_on : (a b c : ℕ) (x y z : Bool) → (nat_lt a b || ((a == b) && x)) ≡ true → (nat_lt b c || ((b == c) && y)) ≡ true
    → (x ≡ true → y ≡ true → z ≡ true) → (nat_lt a c || ((a == c) && z)) ≡ true
number_passes_on a b c x y true h k up = grind (arith, nat_tests)
number_passes_on a b c false y false h k up = grind (arith, nat_tests)
number_passes_on a b c true false false h k up = grind (arith, nat_tests)
number_passes_on a b c true true false h k up = absurd (false≢true (up refl refl))

instant_passes_on : (a b c : ℤ) (x y z : Bool) → (int_lt a b || (int_eq a b && x)) ≡ true → (int_lt b c || (int_eq b c && y)) ≡ true
    → (x ≡ true → y ≡ true → z ≡ true) → (int_lt a c || (int_eq a c && z)) ≡ true
instant_passes_on a b c x y true h k up = grind (arith, ints)
instant_passes_on a b c false y false h k up = grind (arith, ints)
instant_passes_on a b c true false false h k up = grind (arith, ints)
instant_passes_on a b c true true false h k up = absurd (false≢true (up refl refl))

mark_passes_on : (a b c : Rank) → (nat_lt b.written a.written || ((a.written == b.written) && nat_lt a.place b.place)) ≡ true
    → (nat_lt c.written b.written || ((b.written == c.written) && nat_lt b.place c.place)) ≡ true
    → (nat_lt c.written a.written || ((a.written == c.written) && nat_lt a.place c.place)) ≡ true
mark_passes_on a b c h k = grind (arith, nat_tests)

pub going_before_passes_on : (a b c : Rank) → goes_before a b ≡ true → goes_before b c ≡ true → goes_before a c ≡ true
going_before_passes_on a b c h k =
    number_passes_on a.priority b.priority c.priority (breaks_tie a b) (breaks_tie b c) (breaks_tie a c) h k
    (λ m n. instant_passes_on a.late b.late c.late _ _ _ m n (mark_passes_on a b c))

-- the same of not going before
number_not_over : (a b c : ℕ) (x y z : Bool) → (nat_lt a b || ((a == b) && x)) ≡ false → (nat_lt b c || ((b == c) && y)) ≡ false
    → (x ≡ false → y ≡ false → z ≡ false) → (nat_lt a c || ((a == c) && z)) ≡ false
number_not_over a b c x y false h k up = grind (arith, nat_tests)
number_not_over a b c true y true h k up = grind (arith, nat_tests)
number_not_over a b c false true true h k up = grind (arith, nat_tests)
number_not_over a b c false false true h k up = absurd (false≢true (sym (up refl refl)))

instant_not_over : (a b c : ℤ) (x y z : Bool) → (int_lt a b || (int_eq a b && x)) ≡ false → (int_lt b c || (int_eq b c && y)) ≡ false
    → (x ≡ false → y ≡ false → z ≡ false) → (int_lt a c || (int_eq a c && z)) ≡ false
instant_not_over a b c x y false h k up = grind (arith, ints)
instant_not_over a b c true y true h k up = grind (arith, ints)
instant_not_over a b c false true true h k up = grind (arith, ints)
instant_not_over a b c false false true h k up = absurd (false≢true (sym (up refl refl)))

mark_not_over : (a b c : Rank) → (nat_lt b.written a.written || ((a.written == b.written) && nat_lt a.place b.place)) ≡ false
    → (nat_lt c.written b.written || ((b.written == c.written) && nat_lt b.place c.place)) ≡ false
    → (nat_lt c.written a.written || ((a.written == c.written) && nat_lt a.place c.place)) ≡ false
mark_not_over a b c h k = grind (arith, nat_tests)

pub not_going_before_passes_on : (a b c : Rank) → goes_before a b ≡ false → goes_before b c ≡ false → goes_before a c ≡ false
not_going_before_passes_on a b c h k =
    number_not_over a.priority b.priority c.priority (breaks_tie a b) (breaks_tie b c) (breaks_tie a c) h k
    (λ m n. instant_not_over a.late b.late c.late _ _ _ m n (mark_not_over a b c))

pub one_of_two_goes_before : (a b : Rank) → goes_before a b ≡ false → goes_before b a ≡ false → a ≡ b
one_of_two_goes_before a b h k = same a b (grind (arith, ints, nat_tests)) (grind (arith, ints, nat_tests)) (grind (arith, ints, nat_tests)) (grind (arith, ints, nat_tests))
  where
    same : (x y : Rank) → x.priority ≡ y.priority → x.late ≡ y.late → x.written ≡ y.written → x.place ≡ y.place → x ≡ y
    same x y p l w q = λ i. record { priority = p i; late = l i; written = w i; place = q i }
