-- Steps of one entry, and the segments of a list of steps.
use Rattle.std.proofs.Common.{◌≡◌, ℕ, ◌+◌, ◌*◌, ◌-◌, ◌/◌, ◌≤◌, not, ◌&&◌, Bool, true, false, List, [], ◌∷◌, ◌++◌, length, take, drop, Option, Some, None, filter, inl, inr, if◌then◌else◌, append_assoc, length-append, refl, sym, ◌∙◌, ap, arith, ℤ, ◌≤ℤ◌, int_le, int_lt}
use Rattle.std.specs.Option.{option_map}
use Rattle.std.proofs.Math.Nat.{mul-le-mul_left}
use Rattle.std.proofs.lemmas.List.{length-take-le, length-drop, take-append-drop}
use Rattle.std.proofs.lemmas.Int.{ints}
use Rattle.std.proofs.lemmas.Bool.{false≢true, cases_Bool}
use Rattle.adr_time.specs.Spans.{covers, is_before}
use Rattle.adr_time.specs.declared.span.End.{End}
use Rattle.adr_time.specs.declared.span.End.TheVariants.{At, Endless}
use Rattle.adr_model.specs.declared.entry.Entry.{Entry}
use Rattle.adr_model.specs.declared.entry.Rank.{Rank}
use Rattle.adr_model.specs.declared.timeline.Winner.{Winner}
use Rattle.adr_model.specs.declared.timeline.Segment.{Segment}
use Rattle.adr_timeline.proofs.Segments.{winner_in}
use Rattle.adr_timeline.specs.declared.step.RankStep.{RankStep}
use Rattle.adr_timeline.specs.Steps.{Adds, AreRanked, IsMergeOf, lesser, rises, rank_at, rank_from, IsFrom, IsInOrder, down_at, steps_of, first_from, is_run, winner_of_rank, piece, pieces}
use Rattle.adr_time.specs.Spans.{meets}
use Rattle.adr_time.specs.declared.span.Span.{Span}
use Rattle.adr_model.specs.Entries.{meeting}
use Rattle.adr_model.specs.Governor.{winner_at}
use Rattle.adr_model.specs.Timeline.{shows, IsCanonical}
use Rattle.adr_timeline.specs.Parts.{part, joined_all}
use Rattle.adr_timeline.proofs.Pieces.{StartsBy, StartsAfter, IsSpread, clip_made, none_there}
use Rattle.adr_timeline.proofs.Merged.{rises_few}
use Rattle.adr_timeline.proofs.Least.{lesser_none, rank_cons, rank_append, winner_rank}
use Rattle.std.proofs.Math.Seq.{take-append_seam, drop-append_seam}

-- ---- one entry

up_down : (a : ℤ) (e : End) (t : ℤ) (r : Rank) → is_before a e ≡ true → (if int_lt t a then None else rank_from (Some r) (down_at e) t) ≡ (if int_le a t && is_before t e then Some r else None)
up_down a (At u) t r h = grind (arith, ints)
up_down a Endless t r h = grind (arith, ints)

never : (a : ℤ) (e : End) (t : ℤ) (r : Rank) → is_before a e ≡ false → ◌≡◌ {A = Option Rank} None (if int_le a t && is_before t e then Some r else None)
never a (At u) t r h = grind (arith, ints)
never a Endless t r h = absurd (false≢true (sym h))

steps_rank_if : (e : Entry) (t : ℤ) (x : Bool) → is_before e.span.start e.span.end ≡ x → rank_from None (if x then record { from = e.span.start; rank = Some e.rank } ∷ down_at e.span.end else []) t ≡ (if covers e.span t then Some e.rank else None)
steps_rank_if e t true h = up_down e.span.start e.span.end t e.rank h
steps_rank_if e t false h = never e.span.start e.span.end t e.rank h

-- the steps of an entry are its rank, where it covers
pub steps_rank : (e : Entry) (t : ℤ) → rank_from None (steps_of e) t ≡ rank_at (e ∷ []) t
steps_rank e t =
    steps_rank_if e t (is_before e.span.start e.span.end) refl
    ∙ sym (rank_cons e [] t ∙ lesser_none (if covers e.span t then Some e.rank else None))

down_order : (a : ℤ) (e : End) → is_before a e ≡ true → IsFrom a (down_at e)
down_order a (At u) h = (grind (arith, ints), tt)
down_order a Endless h = tt

steps_order_if : (e : Entry) (x : Bool) → is_before e.span.start e.span.end ≡ x → IsInOrder (if x then record { from = e.span.start; rank = Some e.rank } ∷ down_at e.span.end else [])
steps_order_if e true h = down_order e.span.start e.span.end h
steps_order_if e false h = tt

pub steps_order : (e : Entry) → IsInOrder (steps_of e)
steps_order e = steps_order_if e (is_before e.span.start e.span.end) refl

down_few : (e : End) → length (down_at e) ≤ 1
down_few (At u) = omega arith
down_few Endless = omega arith

steps_few_if : (e : Entry) (x : Bool) → length (if x then record { from = e.span.start; rank = Some e.rank } ∷ down_at e.span.end else []) ≤ 2
steps_few_if e true = omega (arith, down_few e.span.end)
steps_few_if e false = omega arith

pub steps_few : (e : Entry) → length (steps_of e) ≤ 2
steps_few e = steps_few_if e (is_before e.span.start e.span.end)

-- ---- a segment from each step up to the next

from_through : (u v : ℤ) (ss : List RankStep) → u ≤ℤ v → IsFrom v ss → IsFrom u ss
from_through u v [] h k = tt
from_through u v (s ∷ ss) h k = (through u v s.from h k.0, k.1)
  where
    through : (a b c : ℤ) → a ≤ℤ b → b ≤ℤ c → a ≤ℤ c
    through a b c p q = omega (arith, ints)

pieces_from : (v : ℤ) (ss : List RankStep) → IsFrom v ss → StartsAfter (At v) (pieces ss)
pieces_from v [] h = tt
pieces_from v (s ∷ ss) h = of_rank s.rank (pieces_from v ss (from_through v s.from ss h.0 h.1))
  where
    of_rank : (r : Option Rank) → StartsAfter (At v) (pieces ss) → StartsAfter (At v) (piece s.from (first_from ss) r (pieces ss))
    of_rank None rest = rest
    of_rank (Some r) rest = h.0

ends_first : (v : ℤ) (ss : List RankStep) → IsFrom v ss → StartsBy v (first_from ss) × StartsAfter (first_from ss) (pieces ss)
ends_first v [] h = (tt, tt)
ends_first v (s ∷ ss) h = (h.0, pieces_from s.from (s ∷ ss) ((let r : s.from ≤ℤ s.from = omega (arith, ints) in r), h.1))

spread_from : (v : ℤ) (ss : List RankStep) → IsFrom v ss → IsSpread (pieces ss)
spread_from v [] h = tt
spread_from v (s ∷ ss) h = of_rank s.rank (spread_from s.from ss h.1)
  where
    of_rank : (r : Option Rank) → IsSpread (pieces ss) → IsSpread (piece s.from (first_from ss) r (pieces ss))
    of_rank None rest = rest
    of_rank (Some r) rest = let ends = ends_first s.from ss h.1 in (ends.0, ends.1, rest)

-- they stand in order and apart
pub pieces_spread : (ss : List RankStep) → IsInOrder ss → IsSpread (pieces ss)
pieces_spread [] h = tt
pieces_spread (s ∷ ss) h = spread_from s.from (s ∷ ss) ((let r : s.from ≤ℤ s.from = omega (arith, ints) in r), h)

le_not : (a t : ℤ) → int_le a t ≡ not (int_lt t a)
le_not a t = grind (arith, ints)

earlier_both : (t a b : ℤ) → a ≤ℤ b → int_lt t a ≡ true → int_lt t b ≡ true
earlier_both t a b h k = grind (arith, ints)

-- the tests of a step and of the next
next_step : (x y : Bool) (r n : Option Rank) (rest : Option Winner) → (x ≡ true → y ≡ true) → rest ≡ (if y then None else option_map winner_of_rank n) → (q : Rank) → r ≡ Some q → (if not x && y then Some (winner_of_rank q) else rest) ≡ (if x then None else option_map winner_of_rank (if y then r else n))
next_step true true r n rest h k q e = k
next_step true false r n rest h k q e = absurd (false≢true (h refl))
next_step false true r n rest h k q e = rw e
next_step false false r n rest h k q e = k

next_none : (x y : Bool) (n : Option Rank) (rest : Option Winner) → (x ≡ true → y ≡ true) → rest ≡ (if y then None else option_map winner_of_rank n) → rest ≡ (if x then None else option_map winner_of_rank (if y then None else n))
next_none true true n rest h k = k
next_none true false n rest h k = absurd (false≢true (h refl))
next_none false true n rest h k = k
next_none false false n rest h k = k

last_some : (x : Bool) (w : Winner) → (if not x && true then Some w else None) ≡ (if x then None else Some w)
last_some true w = refl
last_some false w = refl

shown_last : (a : ℤ) (r : Option Rank) (t : ℤ) → winner_in (piece a Endless r []) t ≡ (if int_lt t a then None else option_map winner_of_rank r)
shown_last a None t = none_there (int_lt t a)
shown_last a (Some q) t = rw (le_not a t) (last_some (int_lt t a) (winner_of_rank q))

shown_next : (a b : ℤ) (r n : Option Rank) (rest : List Segment) (t : ℤ) → a ≤ℤ b → winner_in rest t ≡ (if int_lt t b then None else option_map winner_of_rank n) → winner_in (piece a (At b) r rest) t ≡ (if int_lt t a then None else option_map winner_of_rank (if int_lt t b then r else n))
shown_next a b None n rest t h k = next_none (int_lt t a) (int_lt t b) n (winner_in rest t) (earlier_both t a b h) k
shown_next a b (Some q) n rest t h k = rw (le_not a t) (next_step (int_lt t a) (int_lt t b) (Some q) n (winner_in rest t) (earlier_both t a b h) k q refl)

shown_from : (s : RankStep) (ss : List RankStep) (t : ℤ) → IsFrom s.from ss → winner_in (pieces (s ∷ ss)) t ≡ (if int_lt t s.from then None else option_map winner_of_rank (rank_from s.rank ss t))
shown_from s [] t h = shown_last s.from s.rank t
shown_from s (r ∷ rs) t h = shown_next s.from r.from s.rank (rank_from r.rank rs t) (pieces (r ∷ rs)) t h.0 (shown_from r rs t h.1)

map_if : (x : Bool) (o : Option Rank) → (if x then None else option_map winner_of_rank o) ≡ option_map winner_of_rank (if x then None else o)
map_if true o = refl
map_if false o = refl

-- they show the winner of the last step by each instant
pub pieces_show : (ss : List RankStep) (t : ℤ) → IsInOrder ss → winner_in (pieces ss) t ≡ option_map winner_of_rank (rank_from None ss t)
pieces_show [] t h = refl
pieces_show (s ∷ ss) t h = shown_from s ss t h ∙ map_if (int_lt t s.from) (rank_from s.rank ss t)

-- ---- two halves

abbrev pub cost : ℕ → ℕ
cost n = n * (2 * n + 1)

both_cost : (a b n : ℕ) → a + b ≡ n → cost a + cost b ≤ cost n
both_cost a b n same = rw (← same) (omega arith)

pub halves_cost : (a b n : ℕ) → a + b ≡ n → 1 ≤ a → 1 ≤ b → (cost a + cost b) + (2 * a + 2 * b) ≤ cost n
halves_cost a b n same p q = rw (← same) (omega (arith, mul-le-mul_left a q, mul-le-mul_left b p))

-- a list of two or more in halves
pub record IsHalved (front back all : List Entry) : Type 0 where
  pub parts : all ≡ front ++ back
  pub whole : length front + length back ≡ length all
  pub front_some : 1 ≤ length front
  pub back_some : 1 ≤ length back

two_there : (all later : List Entry) (first : Entry) → all ≡ first ∷ later → is_run later ≡ false → 2 ≤ length all
two_there all [] first p n = absurd (false≢true (sym n))
two_there all (e ∷ es) first p n = rw p (omega arith)

pub halved : (front back all : List Entry) (first : Entry) (later : List Entry) → all ≡ first ∷ later → is_run later ≡ false → front ≡ take (length all / 2) all → back ≡ drop (length all / 2) all → IsHalved front back all
halved front back all first later p n f b =
    let two = two_there all later first p n in
    let lengths : length front ≡ length all / 2 = ap length f ∙ length-take-le (length all / 2) all (omega arith) in
    let rest : length back ≡ length all - length all / 2 = ap length b ∙ length-drop (length all / 2) all in
    record {
      parts = rw (f, b) (sym (take-append-drop (length all / 2) all));
      whole = omega arith;
      front_some = omega arith;
      back_some = omega arith;
    }

pub both_within : (front back all : List Entry) (before between now : ℕ) → IsHalved front back all → between ≤ before + cost (length front) → now ≤ between + cost (length back) → now ≤ before + cost (length all)
both_within front back all before between now h first second = omega (arith, both_cost (length front) (length back) (length all) h.whole)

pub all_within : (front back all : List Entry) (before between later now left right : ℕ) → IsHalved front back all → between ≤ before + cost (length front) → later ≤ between + cost (length back) → left ≤ 2 * length front → right ≤ 2 * length back → now ≤ later + (left + right) → now ≤ before + cost (length all)
all_within front back all before between later now left right h first second l r merge = omega (arith, halves_cost (length front) (length back) (length all) h.whole h.front_some h.back_some)

pub halves_rank : (front back all : List Entry) (t : ℤ) (left right whole : Option Rank) → all ≡ front ++ back → left ≡ rank_at front t → right ≡ rank_at back t → whole ≡ lesser left right → whole ≡ rank_at all t
halves_rank front back all t left right whole p l r h = rw (h, l, r, p) (sym (rank_append front back t))

-- as many steps go up at most as the ranked entries have
pub rises_within : (entries : List Entry) (steps : List RankStep) → AreRanked entries steps → rises steps ≤ 2 * length entries
rises_within entries steps ranked = omega (arith, rises_few steps, ranked.1)

-- ---- the entries that meet a window

covers_meets : (a b : ℤ) (e f : End) (t : ℤ) → (int_le a t && is_before t e) ≡ true → (int_le b t && is_before t f) ≡ true → (is_before a e && is_before b f && is_before a f && is_before b e) ≡ true
covers_meets a b (At u) (At v) t h k = grind (arith, ints)
covers_meets a b (At u) Endless t h k = grind (arith, ints)
covers_meets a b Endless (At v) t h k = grind (arith, ints)
covers_meets a b Endless Endless t h k = refl

kept : (e : Entry) (w : Span) (t : ℤ) (x y : Bool) → meets e.span w ≡ x → covers e.span t ≡ y → covers w t ≡ true → (rest : List Entry) → filter (λ (f : Entry). covers f.span t) (if x then e ∷ rest else rest) ≡ (if y then e ∷ filter (λ (f : Entry). covers f.span t) rest else filter (λ (f : Entry). covers f.span t) rest)
kept e w t true true h k c rest = rw k
kept e w t true false h k c rest = rw k
kept e w t false true h k c rest = absurd (false≢true (sym h ∙ covers_meets e.span.start w.start e.span.end w.end t k c))
kept e w t false false h k c rest = refl

covering_meeting : (es : List Entry) (w : Span) (t : ℤ) → covers w t ≡ true → filter (λ (f : Entry). covers f.span t) (meeting es w) ≡ filter (λ (f : Entry). covers f.span t) es
covering_meeting [] w t c = refl
covering_meeting (e ∷ es) w t c =
    kept e w t (meets e.span w) (covers e.span t) refl refl c (meeting es w)
    ∙ ap (λ (fs : List Entry). if covers e.span t then e ∷ fs else fs) (covering_meeting es w t c)

-- inside the window they win as all entries do
pub winner_meeting : (es : List Entry) (w : Span) (t : ℤ) → (if covers w t then winner_at (meeting es w) t else None) ≡ (if covers w t then winner_at es t else None)
winner_meeting es w t = elim (cases_Bool (covers w t)) [
  | inl c ↦ rw (c, covering_meeting es w t c)
  | inr c ↦ rw c
]

-- ---- what is built

pub build_canonical : (steps : List RankStep) (new : List Segment) (w : Span) → IsInOrder steps → new ≡ joined_all [] (part (Some w.start) w.end (pieces steps)) → IsCanonical new
build_canonical steps new w o n = (clip_made (pieces steps) new w (pieces_spread steps o) n).canonical

pub build_shows : (es : List Entry) (steps : List RankStep) (new : List Segment) (w : Span) → IsInOrder steps → ((t : ℤ) → rank_from None steps t ≡ rank_at es t) → new ≡ joined_all [] (part (Some w.start) w.end (pieces steps)) → (t : ℤ) → shows new t ≡ (if covers w t then winner_at es t else None)
build_shows es steps new w o r n t =
    let made = clip_made (pieces steps) new w (pieces_spread steps o) n in
    let wins : winner_in (pieces steps) t ≡ winner_at es t = pieces_show steps t o ∙ (ap (option_map winner_of_rank) (r t) ∙ winner_rank es t) in
    made.shown t ∙ (rw wins refl)

-- ---- the steps of both halves, one after the other

-- the first half's steps, the second's behind them, and those that were there before
pub parts_there : (before after all l r : List RankStep) (start middle : ℕ) → after ≡ before ++ l → all ≡ after ++ r → start ≡ length before → middle ≡ length after
    → (take start all ≡ before) × (drop start (take middle all) ≡ l) × (drop middle all ≡ r)
parts_there before after all l r start middle h k s m = (
  rw (s, k, h, append_assoc before l r) (take-append_seam before (l ++ r)),
  (let front : take middle all ≡ after = rw (m, k) (take-append_seam after r) in rw (s, front, h) (drop-append_seam before l)),
  rw (m, k) (drop-append_seam after r),
)

pub places_there : (before after all l r : List RankStep) (start middle : ℕ) → after ≡ before ++ l → all ≡ after ++ r → start ≡ length before → middle ≡ length after
    → (start ≤ middle) × (middle ≤ length all)
places_there before after all l r start middle h k s m =
    let within : length after ≡ length before + length l = ap length h ∙ length-append before l in
    let whole : length all ≡ length after + length r = ap length k ∙ length-append after r in
    (omega arith, omega arith)

pub right_part : (after all o r right : List RankStep) (middle : ℕ) → all ≡ after ++ r → middle ≡ length after → o ≡ all → right ≡ drop middle o → right ≡ r
right_part after all o r right middle k m is d = d ∙ (rw (m, is, k) (drop-append_seam after r))

-- what both halves give is ranked by all entries
pub whole_ranked : (front back all : List Entry) (l r steps : List RankStep) → IsHalved front back all → AreRanked front l → AreRanked back r → IsMergeOf l r steps → AreRanked all steps
whole_ranked front back all l r steps h first second merged = (
  merged.0,
  omega (arith, merged.1, first.1, second.1, h.whole),
  λ t. halves_rank front back all t (rank_from None l t) (rank_from None r t) (rank_from None steps t) h.parts (first.2 t) (second.2 t) (merged.2 t),
)

-- the steps put at the end of none
pub from_none : (entries : List Entry) (none new : List RankStep) → none ≡ [] → Adds (AreRanked entries) none new → AreRanked entries new
from_none entries none new n made = rw (made.1 ∙ ap (λ (xs : List RankStep). xs ++ made.0) n) made.2
