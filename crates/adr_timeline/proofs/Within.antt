-- What meets a window meets each span that the window lies in.
use Rattle.std.proofs.Common.{◌≡◌, Bool, true, false, ◌&&◌, List, [], ◌∷◌, if◌then◌else◌, refl, arith, ℤ, int_le, int_lt}
use Rattle.std.proofs.lemmas.Int.{ints}
use Rattle.std.proofs.lemmas.Bool.{false≢true, and_parts}
use Rattle.adr_time.specs.Spans.{covers, is_before, meets}
use Rattle.adr_time.specs.declared.span.End.{End}
use Rattle.adr_time.specs.declared.span.End.TheVariants.{At, Endless}
use Rattle.adr_time.specs.declared.span.Span.{Span}
use Rattle.adr_model.specs.declared.entry.Entry.{Entry}
use Rattle.adr_model.specs.Entries.{meeting}
use Rattle.adr_timeline.specs.Near.{IsNoLater, Serves}

le_before : (a b : ℤ) (e : End) → int_le a b ≡ true → is_before b e ≡ true → is_before a e ≡ true
le_before a b (At u) h k = grind (arith, ints)
le_before a b Endless h k = refl

join : (a b c d : Bool) → a ≡ true → b ≡ true → c ≡ true → d ≡ true → (a && b && c && d) ≡ true
join a b c d ha hb hc hd = rw (ha, hb, hc, hd) refl

meets_wider : (e s w : Span) → int_le s.start w.start ≡ true → IsNoLater w.end s.end → meets e w ≡ true → meets e s ≡ true
meets_wider e s w from by met =
    let last = and_parts (is_before e.start e.end && is_before w.start w.end && is_before e.start w.end) (is_before w.start e.end) met in
    let third = and_parts (is_before e.start e.end && is_before w.start w.end) (is_before e.start w.end) last.0 in
    let both = and_parts (is_before e.start e.end) (is_before w.start w.end) third.0 in
    join (is_before e.start e.end) (is_before s.start s.end) (is_before e.start s.end) (is_before s.start e.end)
    both.0 (le_before s.start w.start s.end from (by w.start both.1)) (by e.start third.1) (le_before s.start w.start e.end from last.1)

one_kept : (x y : Bool) (e : Entry) (w : Span) (rest all : List Entry) → meets e.span w ≡ y → (y ≡ true → x ≡ true) → meeting rest w ≡ all → meeting (if x then e ∷ rest else rest) w ≡ (if y then e ∷ all else all)
one_kept true y e w rest all m h k = rw (m, k) refl
one_kept false true e w rest all m h k = absurd (false≢true (h refl))
one_kept false false e w rest all m h k = k

pub serves : (s w : Span) → int_le s.start w.start ≡ true → IsNoLater w.end s.end → Serves s w
serves s w from by [] = refl
serves s w from by (e ∷ es) =
    one_kept (meets e.span s) (meets e.span w) e w (meeting es s) (meeting es w) refl (meets_wider e.span s w from by) (serves s w from by es)

without : (x y z : Bool) → (x && false && y && z) ≡ false
without true y z = refl
without false y z = refl

-- the span holds the window
abbrev pub Holds : Span → Span → Type 0
Holds s w = (int_le s.start w.start ≡ true) × IsNoLater w.end s.end

pub held_serves : (s w : Span) → Holds s w → Serves s w
held_serves s w h = serves s w h.0 h.1

pub serves_inside : (s w : Span) → covers s w.start ≡ true → IsNoLater w.end s.end → Serves s w
serves_inside s w c by = serves s w (and_parts (int_le s.start w.start) (is_before w.start s.end) c).0 by

pub meets_none : (es : List Entry) (s : Span) → is_before s.start s.end ≡ false → meeting es s ≡ []
meets_none [] s h = refl
meets_none (e ∷ es) s h = rw (h, without (is_before e.span.start e.span.end) (is_before e.span.start s.end) (is_before s.start e.span.end)) (meets_none es s h)

not_before : (a : ℤ) → int_lt a a ≡ false
not_before a = grind (arith, ints)

pub nothing_met : (es : List Entry) (a : ℤ) → meeting es (record { start = a; end = At a }) ≡ []
nothing_met es a = meets_none es (record { start = a; end = At a }) (not_before a)
