-- A span lasts where it starts before it ends. Two meet where each starts before the other ends, and they share the later start.
use Rattle.std.proofs.Common.{◌≡◌, ◌↔◌, ℤ, ◌≤ℤ◌, Bool, true, false, ◌&&◌, true≢false, IsTrue, ap, arith, refl, sym}
use Rattle.std.proofs.lemmas.Bool.Decides.{Decides-int_eq}
use Rattle.std.proofs.lemmas.Int.{ints, by_lt_z}
use Rattle.std.specs.Int.Signed.{≤ℤ_refl}
use Rattle.jiff_core.proofs.SignedLemmas.{signed_arith}
use Rattle.adr_time.specs.declared.span.End.{End}
use Rattle.adr_time.specs.declared.span.End.TheVariants.{At, Endless}
use Rattle.adr_time.specs.declared.span.Span.{Span}
use Rattle.adr_time.specs.Spans.{IsBefore, is_before, Lasts, lasts, Meets, meets, ends_at}

is_before-true : (t : ℤ) (e : End) → is_before t e ≡ true → IsBefore t e
is_before-true t (At end) h = grind (arith, ints)
is_before-true t Endless h = tt

true-is_before : (t : ℤ) (e : End) → IsBefore t e → is_before t e ≡ true
true-is_before t (At end) h = grind (arith, ints)
true-is_before t Endless h = refl

-- what comes before one that comes before the end does so itself
is_before-earlier : (s t : ℤ) (e : End) → s ≤ℤ t → IsBefore t e → IsBefore s e
is_before-earlier s t (At end) le h = grind (arith, ints)
is_before-earlier s t Endless le h = tt

lasting : (span : Span) → lasts span ≡ true → Lasts span
lasting span e = (span.start, (≤ℤ_refl span.start, is_before-true span.start span.end e))

covered : (span : Span) → Lasts span → lasts span ≡ true
covered span l = true-is_before span.start span.end (is_before-earlier span.start l.0 span.end l.1.0 l.1.1)

-- the test of `Lasts` holds where some instant is covered
pub lasts_meaning : (span : Span) → IsTrue (lasts span) ↔ Lasts span
lasts_meaning span = (lasting span, covered span)

-- ---- ends

pub ends_at_is : (e : End) (t : ℤ) → ends_at e t ≡ true → e ≡ At t
ends_at_is (At u) t h = ap At ((Decides-int_eq u t).0 h)
ends_at_is Endless t h = absurd (true≢false (sym h))

-- ---- spans that meet

all_four : (a b c d : Bool) → (a && b && c && d) ≡ true → (a ≡ true) × (b ≡ true) × (c ≡ true) × (d ≡ true)
all_four true true true true e = (refl, refl, refl, refl)
all_four true true true false e = absurd (true≢false (sym e))
all_four true true false d e = absurd (true≢false (sym e))
all_four true false c d e = absurd (true≢false (sym e))
all_four false b c d e = absurd (true≢false (sym e))

four_all : (a b c d : Bool) → a ≡ true → b ≡ true → c ≡ true → d ≡ true → (a && b && c && d) ≡ true
four_all a b c d p q r s = rw (p, q, r, s) refl

shared : (a b : Span) → meets a b ≡ true → Meets a b
shared a b e =
    let four = all_four _ _ _ _ e in
    let a_lasts = is_before-true a.start a.end four.0 in
    let b_lasts = is_before-true b.start b.end four.1 in
    let a_first = is_before-true a.start b.end four.2 in
    let b_first = is_before-true b.start a.end four.3 in
    by_lt_z a.start b.start
    (λ lt. let le : a.start ≤ℤ b.start = omega (arith, signed_arith) in (b.start, (le, b_first), (≤ℤ_refl b.start, b_lasts)))
    (λ ge. (a.start, (≤ℤ_refl a.start, a_lasts), (ge, a_first)))

shares : (a b : Span) → Meets a b → meets a b ≡ true
shares a b m =
    let t = m.0 in
    let in_a = m.1 in
    let in_b = m.2 in
    four_all _ _ _ _
    (true-is_before a.start a.end (is_before-earlier a.start t a.end in_a.0 in_a.1))
    (true-is_before b.start b.end (is_before-earlier b.start t b.end in_b.0 in_b.1))
    (true-is_before a.start b.end (is_before-earlier a.start t b.end in_a.0 in_b.1))
    (true-is_before b.start a.end (is_before-earlier b.start t a.end in_b.0 in_a.1))

-- the test of `Meets` holds where some instant is covered by both
pub meets_meaning : (a b : Span) → IsTrue (meets a b) ↔ Meets a b
meets_meaning a b = (shared a b, shares a b)
