-- Segments in chunks, and lists that are put at the end of others.
use Rattle.std.proofs.Common.{◌≡◌, ℕ, zero, suc, ◌+◌, ◌-◌, ◌<◌, Bool, true, false, not, ◌&&◌, List, [], ◌∷◌, ◌++◌, length, slice_get, get_or, Option, Some, None, if◌then◌else◌, refl, sym, ◌∙◌, ap, subst, arith, ℤ, ◌≤ℤ◌, int_le, int_lt}
use Rattle.std.specs.Int.{int_max, int_min}
use Rattle.std.specs.Option.{option_map_or}
use Rattle.std.proofs.lemmas.Int.{ints}
use Rattle.std.proofs.lemmas.List.{append_assoc, append-nil}
use Rattle.std.proofs.lemmas.Bool.{false≢true, and_parts, false_from_ne_true}
use Rattle.adr_time.specs.declared.span.End.{End}
use Rattle.adr_time.specs.declared.span.End.TheVariants.{At, Endless}
use Rattle.adr_time.specs.Spans.{earlier_end, is_before}
use Rattle.adr_model.specs.declared.timeline.Segment.{Segment}
use Rattle.adr_model.specs.declared.timeline.Winner.{Winner}
use Rattle.adr_model.specs.Timeline.{IsCanonical}
use Rattle.adr_timeline.specs.Parts.{start_from, trimmed, put, part, leads_to, joined, joined_all}
use Rattle.adr_timeline.specs.Chunks.{listed, AreFilled, first_of, last_of, goes_on, is_from, is_over_by, is_within, starts_late}
use Rattle.adr_timeline.proofs.Segments.{EndsBy, IsApart, IsLinked}
use Rattle.adr_timeline.proofs.Shown.{leads_same}
use Rattle.adr_timeline.proofs.Words.{canonical_linked, linked_canonical}

-- ---- the list of the chunks

pub listed_append : (cs ds : List (List Segment)) → listed (cs ++ ds) ≡ listed cs ++ listed ds
listed_append [] ds = refl
listed_append (c ∷ cs) ds = ap (λ (xs : List Segment). c ++ xs) (listed_append cs ds) ∙ sym (append_assoc c (listed cs) (listed ds))

pub listed_push : (cs : List (List Segment)) (c : List Segment) → listed (cs ++ c ∷ []) ≡ listed cs ++ c
listed_push cs c = listed_append cs (c ∷ []) ∙ ap (λ (xs : List Segment). listed cs ++ xs) (append-nil c)

pub filled_push : (cs : List (List Segment)) (c : List Segment) → AreFilled cs → 0 < length c → AreFilled (cs ++ c ∷ [])
filled_push [] c f h = (h, tt)
filled_push (d ∷ cs) c f h = (f.0, filled_push cs c f.1 h)

pub filled_pop : (cs : List (List Segment)) (c : List Segment) → AreFilled (cs ++ c ∷ []) → AreFilled cs × (0 < length c)
filled_pop [] c f = (tt, f.0)
filled_pop (d ∷ cs) c f = let rest = filled_pop cs c f.1 in ((f.0, rest.0), rest.1)

pub popped_same : (old new : List (List Segment)) (c o : List Segment) → old ≡ new ++ c ∷ [] → length o ≡ 0 → listed new ++ (o ++ c) ≡ listed old ++ o
popped_same old new c (p ∷ o) h n = absurd (omega arith)
popped_same old new c [] h n = rw h (sym (append-nil (listed (new ++ c ∷ [])) ∙ listed_push new c))

pub popped_filled : (old new : List (List Segment)) (c : List Segment) → old ≡ new ++ c ∷ [] → AreFilled old → AreFilled new
popped_filled old new c h f = (filled_pop new c (rw h at f)).0

pub sealed_view : (cs : List (List Segment)) (o : List Segment) (all : List Segment) → all ≡ listed cs ++ o → (new : List (List Segment)) → listed new ≡ listed cs ++ o → (none : List Segment) → none ≡ [] → listed new ++ none ≡ all
sealed_view cs o all a new h none n = rw (n, a) (append-nil (listed new) ∙ h)

-- a chunk that is shared after what was sealed
pub shared_view : (old between new : List (List Segment)) (o none c all : List Segment) → none ≡ [] → listed between ≡ listed old ++ o → listed old ++ o ≡ all → listed new ≡ listed between ++ c → listed new ++ none ≡ all ++ c
shared_view old between new o none c all n b a h = rw n (append-nil (listed new) ∙ (h ∙ ap (λ (xs : List Segment). xs ++ c) (b ∙ a)))

-- pieces after those that are not sealed
pub extended_view : (cs : List (List Segment)) (o pieces all : List Segment) → listed cs ++ o ≡ all → listed cs ++ (o ++ pieces) ≡ all ++ pieces
extended_view cs o pieces all h = sym (append_assoc (listed cs) o pieces) ∙ ap (λ (xs : List Segment). xs ++ pieces) h

-- ---- the last segment

pub last_is : (ss : List Segment) → slice_get ss (length ss - 1) ≡ last_of ss
last_is [] = refl
last_is (s ∷ []) = refl
last_is (s ∷ (r ∷ rs)) = let e : length (s ∷ (r ∷ rs)) - 1 ≡ suc (length (r ∷ rs) - 1) = omega arith in rw e (last_is (r ∷ rs))

pub last_append : (a o : List Segment) → 0 < length o → last_of (a ++ o) ≡ last_of o
last_append [] o h = refl
last_append (s ∷ []) (p ∷ ps) h = refl
last_append (s ∷ []) [] h = absurd (omega arith)
last_append (s ∷ (r ∷ rs)) o h = last_append (r ∷ rs) o h

last_pushed : (ss : List Segment) (p : Segment) → last_of (ss ++ p ∷ []) ≡ Some p
last_pushed ss p = last_append ss (p ∷ []) (omega arith)

pub last_read : (ss : List Segment) (i : ℕ) (d : Segment) → i + 1 ≡ length ss → d ≡ get_or ss i d → last_of ss ≡ Some d
last_read [] i d n h = absurd (omega arith)
last_read (s ∷ []) zero d n h = ap (λ (r : Segment). Some r) (sym h)
last_read (s ∷ []) (suc i) d n h = absurd (omega arith)
last_read (s ∷ (r ∷ rs)) zero d n h = absurd (omega arith)
last_read (s ∷ (r ∷ rs)) (suc i) d n h = last_read (r ∷ rs) i d (omega arith) h

pub last_after : (a o : List Segment) (r : Option Segment) → 0 < length o → r ≡ slice_get o (length o - 1) → r ≡ last_of (a ++ o)
last_after a o r n h = h ∙ (last_is o ∙ sym (last_append a o n))

pub last_chunk : (cs : List (List Segment)) (c o : List Segment) → length o ≡ 0 → slice_get cs (length cs - 1) ≡ Some c → 0 < length c → last_of (listed cs ++ o) ≡ last_of c
last_chunk cs c (p ∷ o) n h f = absurd (omega arith)
last_chunk [] c [] n h f = absurd (none_some c h)
  where
    none_some : (x : List Segment) → ◌≡◌ {A = Option (List Segment)} None (Some x) → ⊥
    none_some x k = cc
last_chunk (d ∷ []) c [] n h f = rw (some_is d c h) (ap last_of (append-nil (c ++ []) ∙ append-nil c))
  where
    some_is : (x y : List Segment) → Some x ≡ Some y → x ≡ y
    some_is x y k = cc
last_chunk (d ∷ (e ∷ cs)) c [] n h f =
    let one : length (d ∷ (e ∷ cs)) - 1 ≡ suc (length (e ∷ cs) - 1) = omega arith in
    let rest = last_chunk (e ∷ cs) c [] n (rw one at h) f in
    after_rest rest
  where
    some_more : (xs : List Segment) → last_of xs ≡ last_of c → 0 < length c → 0 < length xs
    some_more [] k l = absurd (last_some c l (sym k))
      where
        last_some : (x : List Segment) → 0 < length x → last_of x ≡ None → ⊥
        last_some [] l k = absurd (omega arith)
        last_some (p ∷ []) l k = cc
        last_some (p ∷ (q ∷ ps)) l k = last_some (q ∷ ps) (omega arith) k
    some_more (p ∷ ps) k l = omega arith

    after_rest : last_of (listed (e ∷ cs) ++ []) ≡ last_of c → last_of ((d ++ listed (e ∷ cs)) ++ []) ≡ last_of c
    after_rest rest = rw (append_assoc d (listed (e ∷ cs)) []) (last_append d (listed (e ∷ cs) ++ []) (some_more (listed (e ∷ cs) ++ []) rest f) ∙ rest)

-- ---- pieces at the end

pub joined_append : (a o : List Segment) (p : Segment) → 0 < length o → joined (a ++ o) p ≡ a ++ joined o p
joined_append [] o p h = refl
joined_append (s ∷ []) [] p h = absurd (omega arith)
joined_append (s ∷ []) (q ∷ qs) p h = refl
joined_append (s ∷ (r ∷ rs)) o p h = ap (λ (xs : List Segment). s ∷ xs) (joined_append (r ∷ rs) o p h)

pub joined_apart : (ss : List Segment) (p : Segment) → goes_on ss p ≡ false → joined ss p ≡ ss ++ p ∷ []
joined_apart [] p h = refl
joined_apart (s ∷ []) p h = rw h refl
joined_apart (s ∷ (r ∷ rs)) p h = ap (λ (xs : List Segment). s ∷ xs) (joined_apart (r ∷ rs) p h)

pub joined_all_append : (out a b : List Segment) → joined_all out (a ++ b) ≡ joined_all (joined_all out a) b
joined_all_append out [] b = refl
joined_all_append out (p ∷ a) b = joined_all_append (joined out p) a b

-- nothing of a canonical list leads to the next
not_leading : (s r : Segment) (rs : List Segment) → IsApart s (r ∷ rs) → leads_to s r ≡ false
not_leading s r rs a = false_from_ne_true (leads_to s r) (λ h. let same = leads_same s r h in a.1 same.0 same.1)

nil_cons : (p : Segment) (ps : List Segment) → [] ≡ p ∷ ps → ⊥
nil_cons p ps h = cc

follows_apart : (s : Segment) (ss : List Segment) → IsApart s ss → (out : List Segment) → last_of out ≡ Some s → (p : Segment) (ps : List Segment) → ss ≡ p ∷ ps → goes_on out p ≡ false
follows_apart s [] a out l p ps h = absurd (nil_cons p ps h)
follows_apart s (r ∷ rs) a out l p ps h = rw l (not_leading s p ps (subst (λ (xs : List Segment). IsApart s xs) h a))

joined_linked : (c out : List Segment) → IsLinked c → ((p : Segment) (ps : List Segment) → c ≡ p ∷ ps → goes_on out p ≡ false) → joined_all out c ≡ out ++ c
joined_linked [] out l h = sym (append-nil out)
joined_linked (p ∷ ps) out l h =
    rw (joined_apart out p (h p ps refl))
    (joined_linked ps (out ++ p ∷ []) l.2 (follows_apart p ps l.1 (out ++ p ∷ []) (last_pushed out p)) ∙ append_assoc out (p ∷ []) ps)

-- a canonical list at the end of another, whose last segment does not lead to its first
pub joined_whole : (c out : List Segment) (p : Segment) → IsCanonical c → first_of c ≡ Some p → goes_on out p ≡ false → joined_all out c ≡ out ++ c
joined_whole [] out p k f h = sym (append-nil out)
joined_whole (s ∷ ss) out p k f h = joined_linked (s ∷ ss) out (canonical_linked (s ∷ ss) k) (λ q qs e. at_first q qs e)
  where
    some_is : (a b : Segment) → Some a ≡ Some b → a ≡ b
    some_is a b e = cc

    first_is : (q : Segment) (qs : List Segment) → s ∷ ss ≡ q ∷ qs → s ≡ q
    first_is q qs e = cc

    at_first : (q : Segment) (qs : List Segment) → s ∷ ss ≡ q ∷ qs → goes_on out q ≡ false
    at_first q qs e = rw (sym (first_is q qs e) ∙ some_is s p f) h

-- ---- canonical lists in two

pub linked_back : (a b : List Segment) → IsLinked (a ++ b) → IsLinked b
linked_back [] b l = l
linked_back (s ∷ a) b l = linked_back a b l.2

pub linked_front : (a b : List Segment) → IsLinked (a ++ b) → IsLinked a
linked_front [] b l = tt
linked_front (s ∷ []) b l = (l.0, tt, tt)
linked_front (s ∷ (r ∷ rs)) b l = (l.0, l.1, linked_front (r ∷ rs) b l.2)

-- ---- parts

pub part_append : (from : Option ℤ) (until : End) (a b : List Segment) → part from until (a ++ b) ≡ part from until a ++ part from until b
part_append from until [] b = refl
part_append from until (s ∷ a) b = rw (part_append from until a b) (put_append (is_before (trimmed from until s).start (trimmed from until s).end) (part from until a) (part from until b))
  where
    put_append : (x : Bool) (xs ys : List Segment) → (if x then trimmed from until s ∷ (xs ++ ys) else xs ++ ys) ≡ (if x then trimmed from until s ∷ xs else xs) ++ ys
    put_append true xs ys = refl
    put_append false xs ys = refl

-- one chunk more
pub joined_part_append : (out : List Segment) (from : Option ℤ) (until : End) (a b : List Segment) → joined_all out (part from until (a ++ b)) ≡ joined_all (joined_all out (part from until a)) (part from until b)
joined_part_append out from until a b = rw (part_append from until a b) (joined_all_append out (part from until a) (part from until b))

-- a segment that lies inside is its own part
segment_ext : (a b : ℤ) (e f : End) (w : Winner) → a ≡ b → e ≡ f → ◌≡◌ {A = Segment} (record { start = a; end = e; winner = w }) (record { start = b; end = f; winner = w })
segment_ext a b e f w h k = cc

start_kept : (from : Option ℤ) (a : ℤ) → is_from from a ≡ true → start_from from a ≡ a
start_kept None a h = refl
start_kept (Some b) a h = kept b a h
  where
    kept : (u v : ℤ) → int_le u v ≡ true → int_max u v ≡ v
    kept u v k = grind (arith, ints)

-- the end comes no later than the other
abbrev pub is_over : End → End → Bool
is_over e Endless = true
is_over e (At t) = not (is_before t e)

end_kept : (until e : End) → is_over e until ≡ true → earlier_end until e ≡ e
end_kept Endless e h = refl
end_kept (At u) Endless h = absurd (false≢true h)
end_kept (At u) (At v) h = ap At (kept u v h)
  where
    kept : (a b : ℤ) → not (int_lt a b) ≡ true → int_min a b ≡ b
    kept a b k = grind (arith, ints)

over_last : (until : End) (s : Segment) → is_over_by (s ∷ []) until ≡ is_over s.end until
over_last Endless s = refl
over_last (At u) s = refl

over_rest : (until : End) (s r : Segment) (rs : List Segment) → is_over_by (s ∷ (r ∷ rs)) until ≡ is_over_by (r ∷ rs) until
over_rest Endless s r rs = refl
over_rest (At u) s r rs = refl

-- what ends before another that is over is over
over_sooner : (until e : End) (a : ℤ) (f : End) → EndsBy e a → is_before a f ≡ true → is_over f until ≡ true → is_over e until ≡ true
over_sooner Endless e a f h k l = refl
over_sooner (At u) (At v) a (At w) h k l = sooner u v a w h k l
  where
    sooner : (p q b c : ℤ) → q ≤ℤ b → int_lt b c ≡ true → not (int_lt p c) ≡ true → not (int_lt p q) ≡ true
    sooner p q b c x y z = grind (arith, ints)
over_sooner (At u) (At v) a Endless h k l = absurd (false≢true l)
over_sooner (At u) Endless a f h k l = absurd h

pub over_first : (until : End) (s : Segment) (ss : List Segment) → IsLinked (s ∷ ss) → is_over_by (s ∷ ss) until ≡ true → is_over s.end until ≡ true
over_first until s [] l h = sym (over_last until s) ∙ h
over_first until s (r ∷ rs) l h = over_sooner until s.end r.start r.end l.1.0 l.2.0 (over_first until r rs l.2 (sym (over_rest until s r rs) ∙ h))

pub over_more : (until : End) (s : Segment) (ss : List Segment) → is_over_by (s ∷ ss) until ≡ true → is_over_by ss until ≡ true
over_more Endless s [] h = refl
over_more (At u) s [] h = refl
over_more until s (r ∷ rs) h = sym (over_rest until s r rs) ∙ h

from_later : (from : Option ℤ) (a : ℤ) (e : End) (b : ℤ) → is_from from a ≡ true → is_before a e ≡ true → EndsBy e b → is_from from b ≡ true
from_later None a e b h k l = refl
from_later (Some u) a (At v) b h k l = later u a v b h k l
  where
    later : (p q r c : ℤ) → int_le p q ≡ true → int_lt q r ≡ true → r ≤ℤ c → int_le p c ≡ true
    later p q r c x y z = grind (arith, ints)
from_later (Some u) a Endless b h k l = absurd l

abbrev IsFromFirst : Option ℤ → List Segment → Type 0
IsFromFirst from [] = Unit {0}
IsFromFirst from (s ∷ ss) = is_from from s.start ≡ true

from_rest : (from : Option ℤ) (s : Segment) (ss : List Segment) → IsLinked (s ∷ ss) → is_from from s.start ≡ true → IsFromFirst from ss
from_rest from s [] l h = tt
from_rest from s (r ∷ rs) l h = from_later from s.start s.end r.start h l.0 l.1.0

put_kept : (p : Segment) (ps : List Segment) → is_before p.start p.end ≡ true → put p ps ≡ p ∷ ps
put_kept p ps h = rw h refl

inside : (from : Option ℤ) (until : End) (ss : List Segment) → IsLinked ss → IsFromFirst from ss → is_over_by ss until ≡ true → part from until ss ≡ ss
inside from until [] l f o = refl
inside from until (s ∷ ss) l f o =
    let same : trimmed from until s ≡ s = segment_ext (start_from from s.start) s.start (earlier_end until s.end) s.end s.winner (start_kept from s.start f) (end_kept until s.end (over_first until s ss l o)) in
    ap (λ (p : Segment). put p (part from until ss)) same
    ∙ (put_kept s (part from until ss) l.0 ∙ ap (λ (xs : List Segment). s ∷ xs) (inside from until ss l.2 (from_rest from s ss l f) (over_more until s ss o)))

pub part_within : (from : Option ℤ) (until : End) (ss : List Segment) → IsCanonical ss → is_within from until ss ≡ true → part from until ss ≡ ss
part_within from until [] k h = refl
part_within from until (s ∷ ss) k h =
    let parts = and_parts (is_from from s.start) (is_over_by (s ∷ ss) until) h in
    inside from until (s ∷ ss) (canonical_linked (s ∷ ss) k) parts.0 parts.1

-- nothing is left of a segment that starts after the end
late_gone : (from : Option ℤ) (a : ℤ) (until e : End) → not (is_before a until) ≡ true → is_before (start_from from a) (earlier_end until e) ≡ false
late_gone None a (At u) (At v) h = grind (arith, ints)
late_gone None a (At u) Endless h = grind (arith, ints)
late_gone (Some b) a (At u) (At v) h = grind (arith, ints)
late_gone (Some b) a (At u) Endless h = grind (arith, ints)
late_gone from a Endless e h = absurd (false≢true h)

late_rest : (until : End) (s : Segment) (ss : List Segment) → IsLinked (s ∷ ss) → not (is_before s.start until) ≡ true → starts_late until ss ≡ true
late_rest until s [] l h = refl
late_rest until s (r ∷ rs) l h = later until s.start s.end r.start h l.0 l.1.0
  where
    later : (u : End) (a : ℤ) (e : End) (b : ℤ) → not (is_before a u) ≡ true → is_before a e ≡ true → EndsBy e b → not (is_before b u) ≡ true
    later (At u) a (At v) b x y z = grind (arith, ints)
    later Endless a e b x y z = absurd (false≢true x)
    later u a Endless b x y z = absurd z

pub late_part : (from : Option ℤ) (until : End) (ss : List Segment) → IsLinked ss → starts_late until ss ≡ true → part from until ss ≡ []
late_part from until [] l h = refl
late_part from until (s ∷ ss) l h = rw (late_gone from s.start until s.end h) (late_part from until ss l.2 (late_rest until s ss l h))

late_front : (until : End) (c rest : List Segment) → 0 < length c → starts_late until c ≡ true → starts_late until (c ++ rest) ≡ true
late_front until [] rest f h = absurd (omega arith)
late_front until (s ∷ c) rest f h = h

-- nothing is left of chunks of which the first starts after the end
pub listed_late : (from : Option ℤ) (until : End) (c : List Segment) (cs : List (List Segment)) → IsCanonical (listed (c ∷ cs)) → 0 < length c → starts_late until c ≡ true → part from until (listed (c ∷ cs)) ≡ []
listed_late from until c cs k f h = late_part from until (c ++ listed cs) (canonical_linked (c ++ listed cs) k) (late_front until c (listed cs) f h)

pub canonical_first : (c : List Segment) (cs : List (List Segment)) → IsCanonical (listed (c ∷ cs)) → IsCanonical c
canonical_first c cs k = linked_canonical c (linked_front c (listed cs) (canonical_linked (c ++ listed cs) k))

pub canonical_rest : (c : List Segment) (cs : List (List Segment)) → IsCanonical (listed (c ∷ cs)) → IsCanonical (listed cs)
canonical_rest c cs k = linked_canonical (listed cs) (linked_back c (listed cs) (canonical_linked (c ++ listed cs) k))

-- the last segment of a line made longer
pub lengthened : (cs : List (List Segment)) (line o grown : List Segment) (p : Segment) → goes_on line p ≡ true → listed cs ++ o ≡ line → (0 < length line → 0 < length o) → grown ≡ joined o p → listed cs ++ grown ≡ joined line p
lengthened cs line o grown p g same opened h = rw h (sym (joined_append (listed cs) o p (opened (some line g))) ∙ ap (λ (xs : List Segment). joined xs p) same)
  where
    some : (xs : List Segment) → goes_on xs p ≡ true → 0 < length xs
    some [] k = absurd (false≢true k)
    some (x ∷ xs) k = omega arith

-- a turn of the loop over chunks: one is passed over, or its part is put at the end
pub late_turn : (chunks rest : List (List Segment)) (chunk line whole : List Segment) (from : Option ℤ) (until : End) → chunks ≡ chunk ∷ rest → IsCanonical (listed chunks) → joined_all line (part from until (listed chunks)) ≡ whole → 0 < length chunk → starts_late until chunk ≡ true → line ≡ whole
late_turn chunks rest chunk line whole from until c k h f late =
    let none = listed_late from until chunk rest (rw c at k) f late in
    sym (ap (joined_all line) none) ∙ (sym (ap (λ (cs : List (List Segment)). joined_all line (part from until (listed cs))) c) ∙ h)

pub chunk_turn : (chunks rest : List (List Segment)) (chunk line new whole : List Segment) (from : Option ℤ) (until : End) → chunks ≡ chunk ∷ rest → IsCanonical (listed chunks) → joined_all line (part from until (listed chunks)) ≡ whole → new ≡ joined_all line (part from until chunk) → IsCanonical (listed rest) × (joined_all new (part from until (listed rest)) ≡ whole)
chunk_turn chunks rest chunk line new whole from until c k h n = (
  canonical_rest chunk rest (rw c at k),
  rw n (sym (joined_part_append line from until chunk (listed rest)) ∙ (sym (ap (λ (cs : List (List Segment)). joined_all line (part from until (listed cs))) c) ∙ h)),
)

pub first_canonical : (chunks rest : List (List Segment)) (chunk : List Segment) → chunks ≡ chunk ∷ rest → IsCanonical (listed chunks) → IsCanonical chunk
first_canonical chunks rest chunk c k = canonical_first chunk rest (rw c at k)

pub canonical_tail : (s : Segment) (ss : List Segment) → IsCanonical (s ∷ ss) → IsCanonical ss
canonical_tail s ss k = linked_canonical ss (canonical_linked (s ∷ ss) k).2

pub canonical_front : (a b : List Segment) → IsCanonical (a ++ b) → IsCanonical a
canonical_front a b k = linked_canonical a (linked_front a b (canonical_linked (a ++ b) k))

pub canonical_back : (a b : List Segment) → IsCanonical (a ++ b) → IsCanonical b
canonical_back a b k = linked_canonical b (linked_back a b (canonical_linked (a ++ b) k))

-- ---- some chunks at once

first_listed : (c : List Segment) (cs : List (List Segment)) (p : Segment) → first_of c ≡ Some p → first_of (listed (c ∷ cs)) ≡ Some p
first_listed [] cs p h = absurd (cc)
first_listed (s ∷ c) cs p h = h

pub first_chunk : (chunks : List (List Segment)) (c : List Segment) (p : Segment) → slice_get chunks 0 ≡ Some c → first_of c ≡ Some p → first_of (listed chunks) ≡ Some p
first_chunk [] c p h f = absurd (cc)
first_chunk (d ∷ cs) c p h f = first_listed d cs p (rw (some_is d c h) f)
  where
    some_is : (x y : List Segment) → Some x ≡ Some y → x ≡ y
    some_is x y k = cc

-- chunks at the end of a line whose last segment does not lead to their first
pub joined_chunks : (chunks : List (List Segment)) (c out : List Segment) (p : Segment) → IsCanonical (listed chunks) → slice_get chunks 0 ≡ Some c → first_of c ≡ Some p → goes_on out p ≡ false → joined_all out (listed chunks) ≡ out ++ listed chunks
joined_chunks chunks c out p k h f apart = joined_whole (listed chunks) out p k (first_chunk chunks c p h f) apart

pub last_of_all : (chunks : List (List Segment)) (c : List Segment) → slice_get chunks (length chunks - 1) ≡ Some c → 0 < length c → last_of (listed chunks) ≡ last_of c
last_of_all chunks c h f = sym (ap last_of (append-nil (listed chunks))) ∙ last_chunk chunks c [] (omega arith) h f

-- the chunks lie within as their first and their last do
pub all_within : (chunks : List (List Segment)) (c d : List Segment) (p : Segment) (from : Option ℤ) (until : End) → slice_get chunks 0 ≡ Some c → first_of c ≡ Some p → slice_get chunks (length chunks - 1) ≡ Some d → 0 < length d
    → is_within from until (listed chunks) ≡ (is_from from p.start && is_over_by d until)
all_within chunks c d p from until h f k l = rw (first_chunk chunks c p h f) (ap (λ (b : Bool). is_from from p.start && b) (over until))
  where
    over : (u : End) → is_over_by (listed chunks) u ≡ is_over_by d u
    over Endless = refl
    over (At t) = ap (λ (s : Option Segment). not (option_map_or (λ x. is_before t x.end) s false)) (last_of_all chunks d k l)

-- the first chunk, some whole ones and the rest, one after the other
pub joined_runs : (chunks others whole rest : List (List Segment)) (first line one two three : List Segment) (from : Option ℤ) (until : End) → chunks ≡ first ∷ others → others ≡ whole ++ rest
    → one ≡ joined_all line (part from until first) → two ≡ joined_all one (part from until (listed whole)) → three ≡ joined_all two (part from until (listed rest))
    → three ≡ joined_all line (part from until (listed chunks))
joined_runs chunks others whole rest first line one two three from until c o h k m =
    rw (m, k, h)
    (sym (joined_part_append (joined_all line (part from until first)) from until (listed whole) (listed rest))
    ∙ (ap (λ (ss : List Segment). joined_all (joined_all line (part from until first)) (part from until ss)) (sym (listed_append whole rest) ∙ ap listed (sym o))
    ∙ (sym (joined_part_append line from until first (listed others)) ∙ ap (λ (cs : List (List Segment)). joined_all line (part from until (listed cs))) (sym c))))

-- a turn of the loop over whole chunks
pub chunk_joined : (chunks rest : List (List Segment)) (chunk line new whole : List Segment) → chunks ≡ chunk ∷ rest → IsCanonical (listed chunks) → joined_all line (listed chunks) ≡ whole → new ≡ joined_all line chunk
    → IsCanonical (listed rest) × (joined_all new (listed rest) ≡ whole)
chunk_joined chunks rest chunk line new whole c k h n = (
  canonical_rest chunk rest (rw c at k),
  rw n (sym (joined_all_append line chunk (listed rest)) ∙ (sym (ap (λ (cs : List (List Segment)). joined_all line (listed cs)) c) ∙ h)),
)

pub whole_canonical : (others whole rest : List (List Segment)) → others ≡ whole ++ rest → IsCanonical (listed others) → IsCanonical (listed whole) × IsCanonical (listed rest)
whole_canonical others whole rest o k =
    let both : IsCanonical (listed whole ++ listed rest) = subst IsCanonical (ap listed o ∙ listed_append whole rest) k in
    (canonical_front (listed whole) (listed rest) both, canonical_back (listed whole) (listed rest) both)
