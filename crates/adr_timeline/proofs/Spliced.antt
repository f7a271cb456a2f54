-- What a list shows that has another one in each of some windows.
use Rattle.std.proofs.Common.{◌≡◌, Bool, true, false, not, ◌&&◌, ◌||◌, List, [], ◌∷◌, Option, Some, None, if◌then◌else◌, refl, sym, ◌∙◌, arith, ℤ, ◌≤ℤ◌, int_le, int_lt}
use Rattle.std.proofs.lemmas.Int.{ints}
use Rattle.std.proofs.lemmas.Bool.{false≢true, and_parts}
use Rattle.adr_time.specs.Spans.{is_before}
use Rattle.adr_time.specs.declared.span.End.{End}
use Rattle.adr_time.specs.declared.span.End.TheVariants.{At, Endless}
use Rattle.adr_time.specs.declared.span.Span.{Span}
use Rattle.adr_model.specs.declared.timeline.Segment.{Segment}
use Rattle.adr_model.specs.declared.timeline.Winner.{Winner}
use Rattle.adr_model.specs.Timeline.{shows, IsCanonical}
use Rattle.adr_timeline.specs.Parts.{part, part_after, joined_all, spliced_all}
use Rattle.adr_timeline.specs.Windows.{any_covers, are_apart, is_followed_by}
use Rattle.adr_timeline.proofs.Segments.{winner_in, IsLinked}
use Rattle.adr_timeline.proofs.Shown.{IsBehind}
use Rattle.adr_timeline.proofs.Words.{shows_is, canonical_linked, linked_canonical, and_true}
use Rattle.adr_timeline.proofs.Pieces.{IsOrdered, IsReady, or_else, or_none, linked_spread, behind_le, joined_all_is, behind_joined_all, part_shows, ordered_part, behind_part, ready_part, ready_nil, not_yet}

-- the instant is at the end or after it
abbrev is_after : Option End → ℤ → Bool
is_after None t = true
is_after (Some e) t = not (is_before t e)

-- the list ends there or before; it is empty where nothing is passed
abbrev pub IsPassed : Option End → List Segment → Type 0
IsPassed None out = out ≡ []
IsPassed (Some e) out = IsBehind out e

-- the window starts there or later
abbrev StartsFrom : Option End → Span → Type 0
StartsFrom None w = Unit {0}
StartsFrom (Some e) w = not (is_before w.start e) ≡ true

-- the first of the windows does
abbrev pub AreFrom : Option End → List Span → Type 0
AreFrom from [] = Unit {0}
AreFrom from (w ∷ ws) = StartsFrom from w

le_not : (u t : ℤ) (x : Bool) (a b : Option Winner) → (if int_le u t && x then a else b) ≡ (if not (int_lt t u) && x then a else b)
le_not u t x a b = grind (arith, ints)

after_shows : (from : Option End) (until : End) (ss : List Segment) (t : ℤ) → winner_in (part_after from until ss) t ≡ (if is_after from t && is_before t until then winner_in ss t else None)
after_shows None until ss t = part_shows None until ss t
after_shows (Some (At u)) until ss t = part_shows (Some u) until ss t ∙ le_not u t (is_before t until) (winner_in ss t) None
after_shows (Some Endless) until ss t = refl

after_ordered : (from : Option End) (until : End) (ss : List Segment) → IsLinked ss → IsOrdered (part_after from until ss)
after_ordered None until ss c = ordered_part None until ss (linked_spread ss c)
after_ordered (Some (At u)) until ss c = ordered_part (Some u) until ss (linked_spread ss c)
after_ordered (Some Endless) until ss c = tt

after_ready : (from : Option End) (until : End) (out ss : List Segment) → IsPassed from out → IsReady out (part_after from until ss)
after_ready None until out ss p = rw p (ready_nil (part None until ss))
after_ready (Some (At u)) until out ss p = ready_part out u until ss p
after_ready (Some Endless) until out ss p = tt

after_behind : (from : Option End) (a : ℤ) (ss : List Segment) → IsBehind (part_after from (At a) ss) (At a)
after_behind None a ss = behind_part None a ss
after_behind (Some (At u)) a ss = behind_part (Some u) a ss
after_behind (Some Endless) a ss = tt

starts_le : (u a : ℤ) → not (int_lt a u) ≡ true → u ≤ℤ a
starts_le u a h = grind (arith, ints)

passed_start : (from : Option End) (w : Span) (out : List Segment) → StartsFrom from w → IsPassed from out → IsBehind out (At w.start)
passed_start None w out s p = rw p tt
passed_start (Some (At u)) w out s p = behind_le out u w.start p (starts_le u w.start s)
passed_start (Some Endless) w out s p = absurd (false≢true s)

pub lasts_le : (a u : ℤ) → int_lt a u ≡ true → a ≤ℤ u
lasts_le a u h = grind (arith, ints)

-- the inner part ends where the window does
passed_end : (a : ℤ) (e : End) (out inner : List Segment) → is_before a e ≡ true → IsBehind out (At a) → IsBehind (joined_all out (part (Some a) e inner)) e
passed_end a (At u) out inner h b = behind_joined_all (part (Some a) (At u) inner) out u (behind_le out a u b (lasts_le a u h)) (behind_part (Some a) u inner)
passed_end a Endless out inner h b = tt

-- an instant after the window's start is after what is passed, and one after its end after its start
later_after : (from : Option End) (w : Span) (t : ℤ) → StartsFrom from w → int_le w.start t ≡ true → is_after from t ≡ true
later_after None w t s h = refl
later_after (Some (At u)) w t s h = later u w.start t s h
  where
    later : (v a b : ℤ) → not (int_lt a v) ≡ true → int_le a b ≡ true → not (int_lt b v) ≡ true
    later v a b p q = grind (arith, ints)
later_after (Some Endless) w t s h = absurd (false≢true s)

ended_started : (a : ℤ) (e : End) (t : ℤ) → is_before a e ≡ true → is_before t e ≡ false → int_le a t ≡ true
ended_started a (At u) t h k = grind (arith, ints)
ended_started a Endless t h k = absurd (false≢true (sym k))

-- a window that starts after an end covers nothing before it
early_false : (e : End) (a : ℤ) (t : ℤ) (x : Bool) → not (is_before a e) ≡ true → is_before t e ≡ true → (int_le a t && x) ≡ false
early_false (At u) a t true h k = grind (arith, ints)
early_false (At u) a t false h k = grind (arith, ints)
early_false Endless a t x h k = absurd (false≢true h)

early_still : (e : End) (a : ℤ) (f : End) (t : ℤ) → not (is_before a e) ≡ true → is_before a f ≡ true → is_before t e ≡ true → is_before t f ≡ true
early_still (At u) a (At v) t h l k = grind (arith, ints)
early_still e a Endless t h l k = refl
early_still Endless a (At v) t h l k = absurd (false≢true h)

pub apart_parts : (w : Span) (ws : List Span) → are_apart (w ∷ ws) ≡ true → (is_before w.start w.end ≡ true) × AreFrom (Some w.end) ws × (are_apart ws ≡ true)
apart_parts w ws h =
    let rest = and_parts (is_before w.start w.end && is_followed_by w ws) (are_apart ws) h in
    let first = and_parts (is_before w.start w.end) (is_followed_by w ws) rest.0 in
    (first.0, from_next ws first.1, rest.1)
  where
    from_next : (vs : List Span) → is_followed_by w vs ≡ true → AreFrom (Some w.end) vs
    from_next [] k = tt
    from_next (v ∷ vs) k = k

none_covers : (e : End) (ws : List Span) (t : ℤ) → AreFrom (Some e) ws → are_apart ws ≡ true → is_before t e ≡ true → any_covers ws t ≡ false
none_covers e [] t f a h = refl
none_covers e (w ∷ ws) t f a h =
    let parts = apart_parts w ws a in
    rw (early_false e w.start t (is_before t w.end) f h) (none_covers w.end ws t parts.1 parts.2 (early_still e w.start w.end t f parts.0 h))

-- one window: x after what is passed, y from its start on, z before its end, m in a later window
one_window : (x y z m l : Bool) (i o out : Option Winner) → (y ≡ true → x ≡ true) → (z ≡ false → y ≡ true) → (z ≡ true → m ≡ false) → l ≡ not y →
    or_else (if not z then (if m then i else o) else None) (or_else (if y && z then i else None) (or_else (if x && l then o else None) out))
    ≡ or_else (if x then (if (y && z) || m then i else o) else None) out
one_window true true true m l i o out f g h n = rw n refl
one_window true true false m l i o out f g h n = rw n refl
one_window true false true m l i o out f g h n = rw (h refl, n) refl
one_window x false false m l i o out f g h n = absurd (false≢true (g refl))
one_window false true z m l i o out f g h n = absurd (false≢true (f refl))
one_window false false true m l i o out f g h n = refl

-- what has the inner list in the windows
pub record IsRepaired (from : Option End) (out outer inner : List Segment) (ws : List Span) (new : List Segment) : Type 0 where
  pub canonical : IsLinked new
  pub shown : (t : ℤ) → winner_in new t ≡ or_else (if is_after from t then (if any_covers ws t then winner_in inner t else winner_in outer t) else None) (winner_in out t)

pub repaired : (from : Option End) (out outer inner : List Segment) (ws : List Span) → IsLinked outer → IsLinked inner → IsLinked out → IsPassed from out → AreFrom from ws → are_apart ws ≡ true → IsRepaired from out outer inner ws (spliced_all from out outer inner ws)
repaired from out outer inner [] c d l p f a =
    let last = joined_all_is (part_after from Endless outer) out l (after_ready from Endless out outer p) (after_ordered from Endless outer c) in
    record {
      canonical = last.canonical;
      shown = λ t. last.shown t ∙ (rw (after_shows from Endless outer t, and_true (is_after from t)));
    }
repaired from out outer inner (w ∷ ws) c d l p f a =
    let parts = apart_parts w ws a in
    let before = joined_all out (part_after from (At w.start) outer) in
    let first = joined_all_is (part_after from (At w.start) outer) out l (after_ready from (At w.start) out outer p) (after_ordered from (At w.start) outer c) in
    let behind = behind_joined_all (part_after from (At w.start) outer) out w.start (passed_start from w out f p) (after_behind from w.start outer) in
    let inside = joined_all_is (part (Some w.start) w.end inner) before first.canonical (ready_part before w.start w.end inner behind) (ordered_part (Some w.start) w.end inner (linked_spread inner d)) in
    let rest = repaired (Some w.end) (joined_all before (part (Some w.start) w.end inner)) outer inner ws c d inside.canonical (passed_end w.start w.end before inner parts.0 behind) parts.1 parts.2 in
    record {
      canonical = rest.canonical;
      shown = λ t. rest.shown t
          ∙ (rw (inside.shown t, first.shown t, part_shows (Some w.start) w.end inner t, after_shows from (At w.start) outer t)
          (one_window (is_after from t) (int_le w.start t) (is_before t w.end) (any_covers ws t) (int_lt t w.start) (winner_in inner t) (winner_in outer t) (winner_in out t)
          (later_after from w t f) (ended_started w.start w.end t parts.0) (none_covers w.end ws t parts.1 parts.2) (not_yet w.start t)));
    }

-- the same, as the code makes it
pub record IsRepairedAs (outer inner : List Segment) (ws : List Span) (new : List Segment) : Type 0 where
  pub canonical : IsCanonical new
  pub shown : (t : ℤ) → shows new t ≡ (if any_covers ws t then shows inner t else shows outer t)

from_none : (ws : List Span) → AreFrom None ws
from_none [] = tt
from_none (w ∷ ws) = tt

pub repair_made : (outer inner : List Segment) (ws : List Span) (new : List Segment) → IsCanonical outer → IsCanonical inner → are_apart ws ≡ true → new ≡ spliced_all None [] outer inner ws → IsRepairedAs outer inner ws new
repair_made outer inner ws new c d a n =
    let is = repaired None [] outer inner ws (canonical_linked outer c) (canonical_linked inner d) tt refl (from_none ws) a in
    rw n (record {
      canonical = linked_canonical _ is.canonical;
      shown = λ t. rw (shows_is (spliced_all None [] outer inner ws) t, shows_is inner t, shows_is outer t) (is.shown t ∙ or_none (if any_covers ws t then winner_in inner t else winner_in outer t));
    })
