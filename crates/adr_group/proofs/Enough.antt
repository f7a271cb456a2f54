-- How much may be compared where entries lie.
use Rattle.std.proofs.Common.{◌≡◌, ℕ, ℤ, ◌+◌, ◌*◌, ◌≤◌, Bool, true, false, cond, List, [], ◌∷◌, length, min, refl, arith}
use Rattle.std.proofs.lemmas.Int.{ints}
use Rattle.std.proofs.Math.Nat.{min-le_left}
use Rattle.std.proofs.lemmas.Nat.{mul-le}
use Rattle.std.specs.Int.{int_max}
use Rattle.adr_time.specs.Spans.{covers, earlier_end, meets}
use Rattle.adr_time.specs.declared.span.End.{End}
use Rattle.adr_time.specs.declared.span.End.TheVariants.{At, Endless}
use Rattle.adr_time.specs.declared.span.Span.{Span}
use Rattle.adr_model.specs.declared.entry.Entry.{Entry}
use Rattle.adr_model.specs.Entries.{meeting}
use Rattle.adr_timeline.specs.Build.{most_compared}
use Rattle.adr_lines.specs.Right.{written_in}
use Rattle.adr_group.specs.Repair.{most_inside}
use Rattle.adr_group.proofs.Costs.{cost_rises}

-- what meets a part of a window meets the window
pub part_meets : (a w : Span) (s : ℤ) (e : End) → meets a (record { start = int_max w.start s; end = earlier_end w.end e }) ≡ true → meets a w ≡ true
part_meets a w s e h = by a.start w.start a.end w.end e h
  where
    by : (b v : ℤ) (f g e : End) → meets (record { start = b; end = f }) (record { start = int_max v s; end = earlier_end g e }) ≡ true → meets (record { start = b; end = f }) (record { start = v; end = g }) ≡ true
    by b v (At x) (At y) (At z) h = grind (arith, ints)
    by b v (At x) (At y) Endless h = grind (arith, ints)
    by b v (At x) Endless (At z) h = grind (arith, ints)
    by b v (At x) Endless Endless h = grind (arith, ints)
    by b v Endless (At y) (At z) h = grind (arith, ints)
    by b v Endless (At y) Endless h = grind (arith, ints)
    by b v Endless Endless (At z) h = grind (arith, ints)
    by b v Endless Endless Endless h = grind (arith, ints)

-- what two spans both cover is covered by what they have in common
pub both_cover : (w v : Span) (t : ℤ) → covers w t ≡ true → covers v t ≡ true → covers (record { start = int_max w.start v.start; end = earlier_end w.end v.end }) t ≡ true
both_cover w v t h k = by w.start v.start w.end v.end h k
  where
    by : (a b : ℤ) (e f : End) → covers (record { start = a; end = e }) t ≡ true → covers (record { start = b; end = f }) t ≡ true → covers (record { start = int_max a b; end = earlier_end e f }) t ≡ true
    by a b (At x) (At y) h k = grind (arith, ints)
    by a b (At x) Endless h k = grind (arith, ints)
    by a b Endless (At y) h k = grind (arith, ints)
    by a b Endless Endless h k = grind (arith, ints)

-- no more meet the part than the window
part_fewer : (es : List Entry) (part w : Span) → ((s : Span) → meets s part ≡ true → meets s w ≡ true) → length (meeting es part) ≤ length (meeting es w)
part_fewer [] part w inside = omega arith
part_fewer (e ∷ es) part w inside = by (meets e.span part) (meets e.span w) (inside e.span) (part_fewer es part w inside)
  where
    by : (p q : Bool) → (p ≡ true → q ≡ true) → length (meeting es part) ≤ length (meeting es w) → length (cond p (e ∷ meeting es part) (meeting es part)) ≤ length (cond q (e ∷ meeting es w) (meeting es w))
    by true true i h = omega (arith, h)
    by true false i h = absurd (cc (i refl))
    by false true i h = omega (arith, h)
    by false false i h = h

-- so many of the entries of the writes meet a part of the first window that to build inside it compares as often
pub part_compares : (writes : List ℕ) (es all : List Entry) (w : Entry) (ws : List Entry) (part : Span) (n : ℕ) → all ≡ w ∷ ws → ((s : Span) → meets s part ≡ true → meets s w.span ≡ true)
    → n ≤ length (meeting (written_in writes es) part) * (2 * length (meeting (written_in writes es) part) + 1) → n ≤ most_inside writes es all
part_compares writes es all w ws part n is inside h =
    let fewer = part_fewer (written_in writes es) part w.span inside in
    let first : length (meeting (written_in writes es) part) * (2 * length (meeting (written_in writes es) part) + 1) ≤ most_compared (written_in writes es) w.span =
    cost_rises (length (meeting (written_in writes es) part)) (length (meeting (written_in writes es) w.span)) fewer in
    let whole : n ≤ most_inside writes es (w ∷ ws) = omega (arith, h, first) in
    rw is whole

-- what saturates is no more
pub saturated : (n a b c m : ℕ) → a ≡ min (n * 2) m → b ≡ min (a + 1) m → c ≡ min (n * b) m → c ≤ n * (2 * n + 1)
saturated n a b c m of_a of_b of_c =
    let le_a : a ≤ n * 2 = rw of_a (min-le_left (n * 2) m) in
    let le_b : b ≤ a + 1 = rw of_b (min-le_left (a + 1) m) in
    let le_c : c ≤ n * b = rw of_c (min-le_left (n * b) m) in
    let product = mul-le n b n (2 * n + 1) (omega arith) (omega (arith, le_a, le_b)) in
    omega (arith, le_c, product)

-- no more than twice as many
pub twice : (k n s m : ℕ) → s ≡ min (n * 2) m → k ≤ s → k ≤ 2 * n
twice k n s m of_s le = let less : s ≤ n * 2 = rw of_s (min-le_left (n * 2) m) in omega (arith, le, less)
