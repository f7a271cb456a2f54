-- What pieces show that are put at the end of a list, and what a part of a list winner_in.
use Rattle.std.proofs.Common.{◌≡◌, Bool, true, false, not, ◌&&◌, List, [], ◌∷◌, Option, Some, None, if◌then◌else◌, refl, sym, ◌∙◌, ap, arith, ℤ, ◌≤ℤ◌, int_le, int_lt}
use Rattle.std.specs.Int.{int_max}
use Rattle.std.proofs.lemmas.Int.{ints}
use Rattle.std.proofs.lemmas.Bool.{false≢true, cond_both, and_parts}
use Rattle.adr_time.specs.declared.span.End.{End}
use Rattle.adr_time.specs.declared.span.End.TheVariants.{At, Endless}
use Rattle.adr_time.specs.declared.span.Span.{Span}
use Rattle.adr_model.specs.declared.timeline.Segment.{Segment}
use Rattle.adr_model.specs.declared.timeline.Winner.{Winner}
use Rattle.adr_time.specs.Spans.{covers, earlier_end, is_before}
use Rattle.adr_model.specs.Timeline.{span_of}
use Rattle.adr_timeline.proofs.Segments.{winner_in, EndsBy, IsLinked}
use Rattle.adr_timeline.specs.Parts.{start_from, trimmed, put, part, after, after_end, leads_to, joined, joined_all}
use Rattle.adr_model.specs.Timeline.{shows, IsCanonical}
use Rattle.adr_timeline.proofs.Words.{shows_is, canonical_linked, linked_canonical}
use Rattle.adr_timeline.proofs.Shown.{IsBehind, shows_joined, canonical_joined, behind_joined}

-- the instant is at the bound or after it
abbrev pub is_from : Option ℤ → ℤ → Bool
is_from None t = true
is_from (Some a) t = int_le a t

-- the first one starts at the end or later
abbrev pub StartsAfter : End → List Segment → Type 0
StartsAfter e [] = Unit {0}
StartsAfter e (r ∷ rs) = EndsBy e r.start

-- the end is no earlier than the instant
abbrev pub StartsBy : ℤ → End → Type 0
StartsBy a (At u) = a ≤ℤ u
StartsBy a Endless = Unit {0}

-- in order and apart, some perhaps empty
abbrev pub IsSpread : List Segment → Type 0
IsSpread [] = Unit {0}
IsSpread (s ∷ ss) = StartsBy s.start s.end × StartsAfter s.end ss × IsSpread ss

-- nonempty, in order and apart, whatever their winners
abbrev pub IsOrdered : List Segment → Type 0
IsOrdered [] = Unit {0}
IsOrdered (s ∷ ss) = (is_before s.start s.end ≡ true) × StartsAfter s.end ss × IsOrdered ss

-- the list ends where the pieces begin, or before
abbrev pub IsReady : List Segment → List Segment → Type 0
IsReady out [] = Unit {0}
IsReady out (p ∷ ps) = IsBehind out (At p.start)

-- the first, where there is one
abbrev pub or_else : Option Winner → Option Winner → Option Winner
or_else None b = b
or_else (Some a) b = Some a

-- what comes before an end starts no later than it
starts_by : (a : ℤ) (e : End) → is_before a e ≡ true → StartsBy a e
starts_by a (At u) h = grind (arith, ints)
starts_by a Endless h = tt

pub linked_spread : (ss : List Segment) → IsLinked ss → IsSpread ss
linked_spread [] c = tt
linked_spread (s ∷ []) c = (starts_by s.start s.end c.0, tt, tt)
linked_spread (s ∷ (r ∷ rs)) c = (starts_by s.start s.end c.0, c.1.0, linked_spread (r ∷ rs) c.2)

ends_le : (e : End) (a b : ℤ) → EndsBy e a → a ≤ℤ b → EndsBy e b
ends_le (At u) a b h k = omega (arith, ints)
ends_le Endless a b h k = h

ends_through : (e : End) (a : ℤ) (f : End) (b : ℤ) → EndsBy e a → StartsBy a f → EndsBy f b → EndsBy e b
ends_through (At u) a (At v) b h k l = omega (arith, ints)
ends_through e a Endless b h k l = absurd l
ends_through Endless a f b h k l = h

pub behind_le : (ss : List Segment) (a b : ℤ) → IsBehind ss (At a) → a ≤ℤ b → IsBehind ss (At b)
behind_le [] a b h k = tt
behind_le (s ∷ ss) a b h k = (ends_le s.end a b h.0 k, behind_le ss a b h.1 k)

behind_ends : (ss : List Segment) (e : End) (t : ℤ) → IsBehind ss e → EndsBy e t → IsBehind ss (At t)
behind_ends ss (At v) t h k = behind_le ss v t h k
behind_ends ss Endless t h k = absurd k

apart_before : (e : End) (a : ℤ) (t : ℤ) (x : Bool) → EndsBy e a → is_before t e ≡ true → (int_le a t && x) ≡ false
apart_before (At u) a t true h k = grind (arith, ints)
apart_before (At u) a t false h k = grind (arith, ints)
apart_before Endless a t x h k = absurd h

after_through : (s : Segment) (ss : List Segment) (e : End) → EndsBy e s.start → StartsBy s.start s.end → StartsAfter s.end ss → StartsAfter e ss
after_through s [] e h n k = tt
after_through s (r ∷ rs) e h n k = ends_through e s.start s.end r.start h n k

-- before the pieces nothing of them is shown
pieces_none : (ps : List Segment) (e : End) (t : ℤ) → IsOrdered ps → StartsAfter e ps → is_before t e ≡ true → winner_in ps t ≡ None
pieces_none [] e t o a h = refl
pieces_none (p ∷ ps) e t o a h = rw (apart_before e p.start t (is_before t p.end) a h) (pieces_none ps e t o.2 (after_through p ps e a (starts_by p.start p.end o.0) o.1) h)

-- what the pieces do to a list
pub record IsJoined (out ps new : List Segment) : Type 0 where
  pub canonical : IsLinked new
  pub shown : (t : ℤ) → winner_in new t ≡ or_else (winner_in ps t) (winner_in out t)

ready_rest : (out : List Segment) (e : End) (ps : List Segment) → IsBehind out e → StartsAfter e ps → IsReady out ps
ready_rest out e [] b a = tt
ready_rest out e (r ∷ rs) b a = behind_ends out e r.start b a

shown_step : (x : Bool) (w : Winner) (rest out : Option Winner) → (x ≡ true → rest ≡ None) → or_else rest (if x then Some w else out) ≡ or_else (if x then Some w else rest) out
shown_step true w rest out h = rw (h refl)
shown_step false w rest out h = refl

pub joined_all_is : (ps out : List Segment) → IsLinked out → IsReady out ps → IsOrdered ps → IsJoined out ps (joined_all out ps)
joined_all_is [] out c r o = record { canonical = c; shown = λ t. refl }
joined_all_is (p ∷ ps) out c r o =
    let rest = joined_all_is ps (joined out p) (canonical_joined out p c r o.0) (ready_rest (joined out p) p.end ps (behind_joined out p r o.0) o.1) o.2 in
    record {
      canonical = rest.canonical;
      shown = λ t. rest.shown t ∙ (rw (shows_joined out p t c r o.0) (shown_step (covers (span_of p) t) p.winner (winner_in ps t) (winner_in out t) (λ h. pieces_none ps p.end t o.2 o.1 (and_parts (int_le p.start t) (is_before t p.end) h).1)));
    }

-- the ends stay behind an instant
behind_kept : (out : List Segment) (p : Segment) (t : ℤ) → IsBehind out (At t) → EndsBy p.end t → IsBehind (joined out p) (At t)
behind_kept [] p t b h = (h, tt)
behind_kept (s ∷ []) p t b h = cond_both (leads_to s p) (record s { end = p.end } ∷ []) (s ∷ p ∷ []) (λ xs. IsBehind xs (At t)) (λ _. (h, tt)) (λ _. (b.0, (h, tt)))
behind_kept (s ∷ (r ∷ rs)) p t b h = (b.0, behind_kept (r ∷ rs) p t b.1 h)

pub behind_joined_all : (ps out : List Segment) (t : ℤ) → IsBehind out (At t) → IsBehind ps (At t) → IsBehind (joined_all out ps) (At t)
behind_joined_all [] out t b h = b
behind_joined_all (p ∷ ps) out t b h = behind_joined_all ps (joined out p) t (behind_kept out p t b h.0) h.1

-- ---- parts

trimmed_covers : (from : Option ℤ) (until : End) (a : ℤ) (e : End) (t : ℤ) → (int_le (start_from from a) t && is_before t (earlier_end until e)) ≡ ((is_from from t && is_before t until) && (int_le a t && is_before t e))
trimmed_covers None (At u) a (At v) t = grind (arith, ints)
trimmed_covers None (At u) a Endless t = grind (arith, ints)
trimmed_covers None Endless a (At v) t = grind (arith, ints)
trimmed_covers None Endless a Endless t = grind (arith, ints)
trimmed_covers (Some b) (At u) a (At v) t = grind (arith, ints)
trimmed_covers (Some b) (At u) a Endless t = grind (arith, ints)
trimmed_covers (Some b) Endless a (At v) t = grind (arith, ints)
trimmed_covers (Some b) Endless a Endless t = grind (arith, ints)

empty_covers : (a : ℤ) (e : End) (t : ℤ) → is_before a e ≡ false → (int_le a t && is_before t e) ≡ false
empty_covers a (At u) t h = grind (arith, ints)
empty_covers a Endless t h = absurd (false≢true (sym h))

put_shows : (p : Segment) (ps : List Segment) (t : ℤ) → winner_in (put p ps) t ≡ (if covers (span_of p) t then Some p.winner else winner_in ps t)
put_shows p ps t = put_cases (is_before p.start p.end) refl
  where
    put_cases : (x : Bool) → is_before p.start p.end ≡ x → winner_in (if x then p ∷ ps else ps) t ≡ (if covers (span_of p) t then Some p.winner else winner_in ps t)
    put_cases true h = refl
    put_cases false h = rw (empty_covers p.start p.end t h)

both_tests : (x y : Bool) (a b : Option Winner) → (if x && y then a else (if x then b else None)) ≡ (if x then (if y then a else b) else None)
both_tests true y a b = refl
both_tests false y a b = refl

pub none_there : (x : Bool) → ◌≡◌ {A = Option Winner} None (if x then None else None)
none_there true = refl
none_there false = refl

pub part_shows : (from : Option ℤ) (until : End) (ss : List Segment) (t : ℤ) → winner_in (part from until ss) t ≡ (if is_from from t && is_before t until then winner_in ss t else None)
part_shows from until [] t = none_there (is_from from t && is_before t until)
part_shows from until (s ∷ ss) t =
    put_shows (trimmed from until s) (part from until ss) t
    ∙ (rw (trimmed_covers from until s.start s.end t, part_shows from until ss t) (both_tests (is_from from t && is_before t until) (covers (span_of s) t) (Some s.winner) (winner_in ss t)))

start_le : (from : Option ℤ) (a : ℤ) → a ≤ℤ start_from from a
start_le None a = omega (arith, ints)
start_le (Some b) a = grind (arith, ints)

end_le : (until e : End) (t : ℤ) → EndsBy e t → EndsBy (earlier_end until e) t
end_le (At u) (At v) t h = grind (arith, ints)
end_le Endless e t h = h
end_le until Endless t h = absurd h

put_both : (p : Segment) (ps : List Segment) (P : List Segment → Type 0) → (is_before p.start p.end ≡ true → P (p ∷ ps)) → P ps → P (put p ps)
put_both p ps P f x = cond_both (is_before p.start p.end) (p ∷ ps) ps P f (λ _. x)

starts_part : (from : Option ℤ) (until : End) (ss : List Segment) (e : End) → IsSpread ss → StartsAfter e ss → StartsAfter e (part from until ss)
starts_part from until [] e o a = tt
starts_part from until (s ∷ ss) e o a = put_both (trimmed from until s) (part from until ss) (StartsAfter e)
    (λ _. ends_le e s.start (start_from from s.start) a (start_le from s.start))
    (starts_part from until ss e o.2 (after_through s ss e a o.0 o.1))

after_sooner : (until e : End) (ps : List Segment) → StartsAfter e ps → StartsAfter (earlier_end until e) ps
after_sooner until e [] h = tt
after_sooner until e (r ∷ rs) h = end_le until e r.start h

pub ordered_part : (from : Option ℤ) (until : End) (ss : List Segment) → IsSpread ss → IsOrdered (part from until ss)
ordered_part from until [] o = tt
ordered_part from until (s ∷ ss) o = put_both (trimmed from until s) (part from until ss) IsOrdered
    (λ n. (n, after_sooner until s.end (part from until ss) (starts_part from until ss s.end o.2 o.1), ordered_part from until ss o.2))
    (ordered_part from until ss o.2)

end_within : (u : ℤ) (e : End) → EndsBy (earlier_end (At u) e) u
end_within u (At v) = grind (arith, ints)
end_within u Endless = let r : u ≤ℤ u = omega (arith, ints) in r

-- a part before an instant ends by it
pub behind_part : (from : Option ℤ) (u : ℤ) (ss : List Segment) → IsBehind (part from (At u) ss) (At u)
behind_part from u [] = tt
behind_part from u (s ∷ ss) = put_both (trimmed from (At u) s) (part from (At u) ss) (λ xs. IsBehind xs (At u)) (λ _. (end_within u s.end, behind_part from u ss)) (behind_part from u ss)

from_le : (b a : ℤ) → b ≤ℤ start_from (Some b) a
from_le b a = grind (arith, ints)

-- a part from an instant on begins there or later
pub ready_part : (out : List Segment) (b : ℤ) (until : End) (ss : List Segment) → IsBehind out (At b) → IsReady out (part (Some b) until ss)
ready_part out b until [] h = tt
ready_part out b until (s ∷ ss) h = put_both (trimmed (Some b) until s) (part (Some b) until ss) (IsReady out)
    (λ _. behind_le out b (start_from (Some b) s.start) h (from_le b s.start))
    (ready_part out b until ss h)

pub ready_nil : (ps : List Segment) → IsReady [] ps
ready_nil [] = tt
ready_nil (p ∷ ps) = tt

-- ---- clip and splice

pub or_none : (o : Option Winner) → or_else o None ≡ o
or_none None = refl
or_none (Some w) = refl

pub clipped : (ss : List Segment) (a : ℤ) (until : End) → IsSpread ss → IsJoined [] (part (Some a) until ss) (joined_all [] (part (Some a) until ss))
clipped ss a until c = joined_all_is (part (Some a) until ss) [] tt (ready_nil (part (Some a) until ss)) (ordered_part (Some a) until ss c)

pub clip_shows : (ss : List Segment) (a : ℤ) (until : End) (t : ℤ) → IsSpread ss → winner_in (joined_all [] (part (Some a) until ss)) t ≡ (if int_le a t && is_before t until then winner_in ss t else None)
clip_shows ss a until t c = (clipped ss a until c).shown t ∙ (or_none (winner_in (part (Some a) until ss) t) ∙ part_shows (Some a) until ss t)

module _ (outer inner : List Segment) (c : IsLinked outer) (d : IsLinked inner) (a : ℤ) (until : End) where
  -- before the window, and inside it
  abbrev front : List Segment
  front = joined_all [] (part None (At a) outer)

  abbrev pub middle : List Segment
  middle = joined_all front (part (Some a) until inner)

  front_is : IsJoined [] (part None (At a) outer) front
  front_is = joined_all_is (part None (At a) outer) [] tt (ready_nil (part None (At a) outer)) (ordered_part None (At a) outer (linked_spread outer c))

  behind_front : IsBehind front (At a)
  behind_front = behind_joined_all (part None (At a) outer) [] a tt (behind_part None a outer)

  pub middle_is : IsJoined front (part (Some a) until inner) middle
  middle_is = joined_all_is (part (Some a) until inner) front front_is.canonical (ready_part front a until inner behind_front) (ordered_part (Some a) until inner (linked_spread inner d))

  pub middle_shows : (t : ℤ) → winner_in middle t ≡ or_else (if int_le a t && is_before t until then winner_in inner t else None) (if int_lt t a then winner_in outer t else None)
  middle_shows t = middle_is.shown t ∙ (rw (part_shows (Some a) until inner t) (ap (or_else (if int_le a t && is_before t until then winner_in inner t else None)) (front_is.shown t ∙ (or_none (winner_in (part None (At a) outer) t) ∙ part_shows None (At a) outer t))))

endless_case : (y : Bool) (i o : Option Winner) (p : Bool) → p ≡ not y → or_else (if y && true then i else None) (if p then o else None) ≡ (if y && true then i else o)
endless_case true i o p h = rw h (or_none i)
endless_case false i o p h = rw h

ended_case : (x y z p : Bool) (i o : Option Winner) → x ≡ (y && not z) → p ≡ not y → or_else (if x && true then o else None) (or_else (if y && z then i else None) (if p then o else None)) ≡ (if y && z then i else o)
ended_case x true true p i o h k = rw (h, k) (or_none i)
ended_case x true false p i o h k = rw (h, k) (or_none o)
ended_case x false z p i o h k = rw (h, k)

pub not_yet : (a t : ℤ) → int_lt t a ≡ not (int_le a t)
not_yet a t = grind (arith, ints)

over : (a e b t : ℤ) → b ≡ int_max e a → int_le b t ≡ (int_le a t && not (int_lt t e))
over a e b t h = rw h (grind (arith, ints))

at_most_left : (a e : ℤ) → e ≤ℤ int_max e a
at_most_left a e = grind (arith, ints)

at_most_right : (a e : ℤ) → a ≤ℤ int_max e a
at_most_right a e = grind (arith, ints)

-- what a splice is to be
pub record IsSpliced (outer inner : List Segment) (w : Span) (new : List Segment) : Type 0 where
  pub canonical : IsLinked new
  pub shown : (t : ℤ) → winner_in new t ≡ (if covers w t then winner_in inner t else winner_in outer t)

module _ (outer inner : List Segment) (c : IsLinked outer) (d : IsLinked inner) (w : Span) (a : ℤ) (starts : a ≡ w.start) where
  pub spliced_endless : w.end ≡ Endless → IsSpliced outer inner w (middle outer inner c d a w.end)
  spliced_endless e = record {
    canonical = (middle_is outer inner c d a w.end).canonical;
    shown = λ t. middle_shows outer inner c d a w.end t ∙ (rw (starts, e) (endless_case (int_le w.start t) (winner_in inner t) (winner_in outer t) (int_lt t w.start) (not_yet w.start t)));
  }

  module _ (end b : ℤ) (ends : w.end ≡ At end) (after : b ≡ int_max end a) where
    behind_middle : IsBehind (middle outer inner c d a (At end)) (At b)
    behind_middle = rw after (behind_joined_all (part (Some a) (At end) inner) (front outer inner c d a (At end)) (int_max end a)
        (behind_le (front outer inner c d a (At end)) a (int_max end a) (behind_front outer inner c d a (At end)) (at_most_right a end))
        (behind_le (part (Some a) (At end) inner) end (int_max end a) (behind_part (Some a) end inner) (at_most_left a end)))

    last_is : IsJoined (middle outer inner c d a (At end)) (part (Some b) Endless outer) (joined_all (middle outer inner c d a (At end)) (part (Some b) Endless outer))
    last_is = joined_all_is (part (Some b) Endless outer) (middle outer inner c d a (At end)) (middle_is outer inner c d a (At end)).canonical (ready_part (middle outer inner c d a (At end)) b Endless outer behind_middle) (ordered_part (Some b) Endless outer (linked_spread outer c))

    pub spliced_ended : IsSpliced outer inner w (joined_all (middle outer inner c d a (At end)) (part (Some b) Endless outer))
    spliced_ended = record {
      canonical = last_is.canonical;
      shown = λ t. last_is.shown t ∙ (rw (part_shows (Some b) Endless outer t, middle_shows outer inner c d a (At end) t, starts, ends)
          (ended_case (int_le b t) (int_le w.start t) (int_lt t end) (int_lt t w.start) (winner_in inner t) (winner_in outer t) (over w.start end b t (after ∙ ap (int_max end) starts)) (not_yet w.start t)));
    }

-- the same, as the code makes them
pub record IsClipped (ss : List Segment) (w : Span) (new : List Segment) : Type 0 where
  pub canonical : IsCanonical new
  pub shown : (t : ℤ) → shows new t ≡ (if covers w t then winner_in ss t else None)

pub clip_made : (ss new : List Segment) (w : Span) → IsSpread ss → new ≡ joined_all [] (part (Some w.start) w.end ss) → IsClipped ss w new
clip_made ss new w c n = rw n (record {
  canonical = linked_canonical _ (clipped ss w.start w.end c).canonical;
  shown = λ t. shows_is _ t ∙ clip_shows ss w.start w.end t c;
})

pub record IsSplicedAs (outer inner : List Segment) (w : Span) (new : List Segment) : Type 0 where
  pub canonical : IsCanonical new
  pub shown : (t : ℤ) → shows new t ≡ (if covers w t then shows inner t else shows outer t)

as_made : (outer inner : List Segment) (w : Span) (new : List Segment) → IsSpliced outer inner w new → IsSplicedAs outer inner w new
as_made outer inner w new s = record {
  canonical = linked_canonical new s.canonical;
  shown = λ t. rw (shows_is new t, shows_is inner t, shows_is outer t) (s.shown t);
}

module _ (outer inner : List Segment) (w : Span) (out front' middle' : List Segment) (c : IsCanonical outer) (d : IsCanonical inner) (o : out ≡ []) (f : front' ≡ joined_all out (part None (At w.start) outer)) (m : middle' ≡ joined_all front' (part (Some w.start) w.end inner)) where
  linked : IsLinked outer × IsLinked inner
  linked = (canonical_linked outer c, canonical_linked inner d)

  middle_made : middle' ≡ middle outer inner linked.0 linked.1 w.start w.end
  middle_made = m ∙ (rw (f, o))

  ending : (new : List Segment) (e : End) → w.end ≡ e → new ≡ joined_all middle' (after_end w.start e outer) → IsSpliced outer inner w new
  ending new Endless h n = rw (n, middle_made) (spliced_endless outer inner linked.0 linked.1 w w.start refl h)
  ending new (At u) h n =
      let is : middle' ≡ middle outer inner linked.0 linked.1 w.start (At u) = middle_made ∙ ap (λ (x : End). middle outer inner linked.0 linked.1 w.start x) h in
      rw (n, is) (spliced_ended outer inner linked.0 linked.1 w w.start refl u (int_max u w.start) h refl)

  pub splice_made : (new : List Segment) → new ≡ joined_all middle' (after w outer) → IsSplicedAs outer inner w new
  splice_made new n = as_made outer inner w new (ending new w.end refl n)

pub clip_shown : (ss : List Segment) (w : Span) (t : ℤ) → (if covers w t then winner_in ss t else None) ≡ (if covers w t then shows ss t else None)
clip_shown ss w t = rw (shows_is ss t)

-- a clip, as the code makes it
pub record IsClippedAs (ss : List Segment) (w : Span) (new : List Segment) : Type 0 where
  pub canonical : IsCanonical new
  pub shown : (t : ℤ) → shows new t ≡ (if covers w t then shows ss t else None)

pub clipped_as : (ss out new : List Segment) (w : Span) → out ≡ [] → IsCanonical ss → new ≡ joined_all out (part (Some w.start) w.end ss) → IsClippedAs ss w new
clipped_as ss out new w o c n =
    let made = clip_made ss new w (linked_spread ss (canonical_linked ss c)) (n ∙ ap (λ (xs : List Segment). joined_all xs (part (Some w.start) w.end ss)) o) in
    record {
      canonical = made.canonical;
      shown = λ t. made.shown t ∙ clip_shown ss w t;
    }
