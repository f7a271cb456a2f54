-- Binary searches in chunks.
use Rattle.std.proofs.Common.{◌≡◌, ℕ, zero, suc, ◌<◌, ◌≤◌, length, drop, slice_index_or, Bool, true, false, not, List, [], ◌∷◌, ◌++◌, Option, Some, None, if◌then◌else◌, refl, sym, ◌∙◌, ap, arith, ℤ, take}
use Rattle.std.specs.List.Sorted.{IsPartitionedBy, IsPartitionPoint}
use Rattle.std.proofs.lemmas.Int.{ints}
use Rattle.std.proofs.lemmas.Bool.{false≢true}
use Rattle.std.proofs.lemmas.List.{append_assoc, take-append-drop}
use Rattle.adr_time.specs.declared.span.End.{End}
use Rattle.adr_time.specs.declared.span.End.TheVariants.{At, Endless}
use Rattle.adr_time.specs.Spans.{earlier_end, is_before}
use Rattle.adr_model.specs.declared.timeline.Segment.{Segment}
use Rattle.adr_model.specs.Timeline.{shows, IsCanonical}
use Rattle.adr_model.specs.Answer.{IsUntil}
use Rattle.adr_timeline.specs.Parts.{start_from, part, joined_all}
use Rattle.adr_timeline.specs.Chunks.{listed, AreFilled, lasts_past, is_over_by, is_past, starts_late, open_chunks, chunks_from}
use Rattle.adr_timeline.specs.Open.{change_at, open_in, open_in_first, winner_at_open}
use Rattle.adr_timeline.proofs.Segments.{IsLinked}
use Rattle.adr_timeline.proofs.Words.{shows_is, canonical_linked, linked_canonical}
use Rattle.adr_timeline.proofs.Canonical.{ends_rise, not_flip, not_true, not_false, winner_open, until_open}
use Rattle.adr_timeline.proofs.Chunks.{linked_front, linked_back, is_over, over_first, over_more, part_append, late_part, canonical_front, canonical_back, joined_part_append}

-- ---- later chunks end later

last_lasts : (s : Segment) (ss : List Segment) (t : ℤ) → IsLinked (s ∷ ss) → is_before t s.end ≡ true → lasts_past (s ∷ ss) t ≡ true
last_lasts s [] t l h = h
last_lasts s (r ∷ rs) t l h = last_lasts r rs t l.2 (ends_rise s.end r.start r.end t l.1.0 l.2.0 h)

lasts_next : (c d : List Segment) (t : ℤ) → IsLinked (c ++ d) → 0 < length d → lasts_past c t ≡ true → lasts_past d t ≡ true
lasts_next [] d t l f h = absurd (false≢true h)
lasts_next (s ∷ []) [] t l f h = absurd (omega arith)
lasts_next (s ∷ []) (p ∷ ps) t l f h = last_lasts p ps t l.2 (ends_rise s.end p.start p.end t l.1.0 l.2.0 h)
lasts_next (s ∷ (r ∷ rs)) d t l f h = lasts_next (r ∷ rs) d t l.2 f h

lasts_later : (c : List Segment) (cs : List (List Segment)) (t : ℤ) (k : ℕ) (d : List Segment) → IsLinked (c ++ listed cs) → AreFilled cs → k < length cs → lasts_past c t ≡ true → lasts_past (slice_index_or cs k d) t ≡ true
lasts_later c [] t k d l f lt h = absurd (omega arith)
lasts_later c (e ∷ cs) t k d l f lt h =
    let next = lasts_next c e t (front c e cs l) f.0 h in
    at_place k lt next (λ i low. lasts_later e cs t i d (linked_back c (e ++ listed cs) l) f.1 low next)
  where
    front : (a b : List Segment) (bs : List (List Segment)) → IsLinked (a ++ (b ++ listed bs)) → IsLinked (a ++ b)
    front a b bs m = linked_front (a ++ b) (listed bs) (rw (append_assoc a b (listed bs)) m)

    at_place : (i : ℕ) → i < length (e ∷ cs) → lasts_past e t ≡ true → ((j : ℕ) → j < length cs → lasts_past (slice_index_or cs j d) t ≡ true) → lasts_past (slice_index_or (e ∷ cs) i d) t ≡ true
    at_place zero low first rest = first
    at_place (suc i) low first rest = rest i (omega arith)

lasts_in_order : (cs : List (List Segment)) (t : ℤ) (i j : ℕ) (d : List Segment) → IsLinked (listed cs) → AreFilled cs → i ≤ j → j < length cs → lasts_past (slice_index_or cs i d) t ≡ true → lasts_past (slice_index_or cs j d) t ≡ true
lasts_in_order [] t i j d l f le lt h = absurd (omega arith)
lasts_in_order (c ∷ cs) t zero zero d l f le lt h = h
lasts_in_order (c ∷ cs) t zero (suc j) d l f le lt h = lasts_later c cs t j d l f.1 (omega arith) h
lasts_in_order (c ∷ cs) t (suc i) zero d l f le lt h = absurd (omega arith)
lasts_in_order (c ∷ cs) t (suc i) (suc j) d l f le lt h = lasts_in_order cs t i j d (linked_back c (listed cs) l) f.1 (omega arith) (omega arith) h

-- ---- the first chunk that lasts past an instant

record IsSplitAt (cs : List (List Segment)) (t : ℤ) (i : ℕ) : Type 0 where
  pub ended : (k : ℕ) (d : List Segment) → k < i → lasts_past (slice_index_or cs k d) t ≡ false
  pub lasting : (k : ℕ) (d : List Segment) → i ≤ k → k < length cs → lasts_past (slice_index_or cs k d) t ≡ true

split_rest : (c : List Segment) (cs : List (List Segment)) (t : ℤ) (i : ℕ) → IsSplitAt (c ∷ cs) t (suc i) → IsSplitAt cs t i
split_rest c cs t i o = record {
  ended = λ k d lt. o.ended (suc k) d (omega arith);
  lasting = λ k d le lt. o.lasting (suc k) d (omega arith) (omega arith);
}

split_open : (cs : List (List Segment)) (t : ℤ) (i : ℕ) → IsSplitAt cs t i → drop i cs ≡ open_chunks t cs
split_open [] t zero o = refl
split_open [] t (suc i) o = refl
split_open (c ∷ cs) t zero o = rw (o.lasting 0 c (omega arith) (omega arith)) refl
split_open (c ∷ cs) t (suc i) o = rw (o.ended 0 c (omega arith)) (split_open cs t i (split_rest c cs t i o))

pub found_open : (cs : List (List Segment)) (t : ℤ) (i : ℕ) → IsCanonical (listed cs) → AreFilled cs → (IsPartitionedBy (λ (c : List Segment). not (lasts_past c t)) cs → IsPartitionPoint (λ (c : List Segment). not (lasts_past c t) ≡ true) (λ (c : List Segment). not (lasts_past c t) ≡ false) cs i) → drop i cs ≡ open_chunks t cs
found_open cs t i c f found =
    let point = found (λ j k d le lt up. not_flip _ _ (λ h. lasts_in_order cs t j k d (canonical_linked (listed cs) c) f le lt h) up) in
    split_open cs t i (record {
      ended = λ k d lt. not_true _ (point.0 k d (omega arith) lt);
      lasting = λ k d le lt. not_false _ (point.1 k d le lt);
    })

-- ---- what is left from there on

open_either : (c : List Segment) (cs rest : List (List Segment)) (x : Bool) (P : List (List Segment) → Type 0) → (x ≡ true → P (c ∷ cs)) → (x ≡ false → P rest) → P (if x then c ∷ cs else rest)
open_either c cs rest true P f g = f refl
open_either c cs rest false P f g = g refl

pub open_canonical : (t : ℤ) (cs : List (List Segment)) → IsCanonical (listed cs) → IsCanonical (listed (open_chunks t cs))
open_canonical t [] k = k
open_canonical t (c ∷ cs) k = open_either c cs (open_chunks t cs) (lasts_past c t) (λ ds. IsCanonical (listed ds))
    (λ _. k)
    (λ _. open_canonical t cs (linked_canonical (listed cs) (linked_back c (listed cs) (canonical_linked (c ++ listed cs) k))))

pub from_canonical : (from : Option ℤ) (cs : List (List Segment)) → IsCanonical (listed cs) → IsCanonical (listed (chunks_from from cs))
from_canonical None cs k = k
from_canonical (Some t) cs k = open_canonical t cs k

open_filled : (t : ℤ) (cs : List (List Segment)) → AreFilled cs → AreFilled (open_chunks t cs)
open_filled t [] h = tt
open_filled t (c ∷ cs) h = either (lasts_past c t) (open_filled t cs h.1)
  where
    either : (b : Bool) → AreFilled (open_chunks t cs) → AreFilled (if b then c ∷ cs else open_chunks t cs)
    either true rest = h
    either false rest = rest

pub from_filled : (from : Option ℤ) (cs : List (List Segment)) → AreFilled cs → AreFilled (chunks_from from cs)
from_filled None cs h = h
from_filled (Some t) cs h = open_filled t cs h

-- what ends by the bound has no part from there on
ended_gone : (f a : ℤ) (until e : End) → is_over e (At f) ≡ true → is_before (start_from (Some f) a) (earlier_end until e) ≡ false
ended_gone f a (At u) (At v) h = grind (arith, ints)
ended_gone f a Endless (At v) h = grind (arith, ints)
ended_gone f a until Endless h = absurd (false≢true h)

ended_part : (f : ℤ) (until : End) (ss : List Segment) → IsLinked ss → is_over_by ss (At f) ≡ true → part (Some f) until ss ≡ []
ended_part f until [] l h = refl
ended_part f until (s ∷ ss) l h = rw (ended_gone f s.start until s.end (over_first (At f) s ss l h)) (ended_part f until ss l.2 (over_more (At f) s ss h))

not_lasting : (x : Bool) → x ≡ false → not x ≡ true
not_lasting x h = rw h refl

open_part : (f : ℤ) (until : End) (cs : List (List Segment)) → IsLinked (listed cs) → part (Some f) until (listed (open_chunks f cs)) ≡ part (Some f) until (listed cs)
open_part f until [] l = refl
open_part f until (c ∷ cs) l = open_either c cs (open_chunks f cs) (lasts_past c f) (λ ds. part (Some f) until (listed ds) ≡ part (Some f) until (c ++ listed cs))
    (λ _. refl)
    (λ h. open_part f until cs (linked_back c (listed cs) l)
    ∙ sym (part_append (Some f) until c (listed cs) ∙ ap (λ (xs : List Segment). xs ++ part (Some f) until (listed cs)) (ended_part f until c (linked_front c (listed cs) l) (not_lasting (lasts_past c f) h))))

pub from_part : (from : Option ℤ) (until : End) (cs : List (List Segment)) → IsCanonical (listed cs) → part from until (listed (chunks_from from cs)) ≡ part from until (listed cs)
from_part None until cs k = refl
from_part (Some f) until cs k = open_part f until cs (canonical_linked (listed cs) k)

-- ---- the first segment that has not ended

open_front : (c rest : List Segment) (t : ℤ) → lasts_past c t ≡ true → open_in (c ++ rest) t ≡ open_in c t
open_front [] rest t h = absurd (false≢true h)
open_front (s ∷ []) rest t h = rw h refl
open_front (s ∷ (r ∷ rs)) rest t h = ap (λ (o : Option Segment). if is_before t s.end then Some s else o) (open_front (r ∷ rs) rest t h)

not_over : (e : End) (t : ℤ) → is_over e (At t) ≡ true → is_before t e ≡ false
not_over e t h = not_true (is_before t e) h

open_back : (c rest : List Segment) (t : ℤ) → IsLinked c → is_over_by c (At t) ≡ true → open_in (c ++ rest) t ≡ open_in rest t
open_back [] rest t l h = refl
open_back (s ∷ c) rest t l h = rw (not_over s.end t (over_first (At t) s c l h)) (open_back c rest t l.2 (over_more (At t) s c h))

open_linked : (cs : List (List Segment)) (t : ℤ) → IsLinked (listed cs) → open_in_first (open_chunks t cs) t ≡ open_in (listed cs) t
open_linked [] t l = refl
open_linked (c ∷ cs) t l = open_either c cs (open_chunks t cs) (lasts_past c t) (λ ds. open_in_first ds t ≡ open_in (c ++ listed cs) t)
    (λ h. sym (open_front c (listed cs) t h))
    (λ h. open_linked cs t (linked_back c (listed cs) l) ∙ sym (open_back c (listed cs) t (linked_front c (listed cs) l) (not_lasting (lasts_past c t) h)))

pub open_listed : (cs : List (List Segment)) (t : ℤ) → IsCanonical (listed cs) → open_in_first (open_chunks t cs) t ≡ open_in (listed cs) t
open_listed cs t k = open_linked cs t (canonical_linked (listed cs) k)

found_is : (cs ds : List (List Segment)) (t : ℤ) (r : Option Segment) → IsCanonical (listed cs) → ds ≡ open_chunks t cs → r ≡ open_in_first ds t → r ≡ open_in (listed cs) t
found_is cs ds t r k d h = h ∙ (ap (λ (es : List (List Segment)). open_in_first es t) d ∙ open_listed cs t k)

pub shown_open : (cs ds : List (List Segment)) (t : ℤ) (r : Option Segment) → IsCanonical (listed cs) → ds ≡ open_chunks t cs → r ≡ open_in_first ds t → shows (listed cs) t ≡ winner_at_open r t
shown_open cs ds t r k d h = rw (found_is cs ds t r k d h) (shows_is (listed cs) t ∙ winner_open (listed cs) t (canonical_linked (listed cs) k))

pub until_listed : (cs ds : List (List Segment)) (t : ℤ) (r : Option Segment) → IsCanonical (listed cs) → ds ≡ open_chunks t cs → r ≡ open_in_first ds t → IsUntil (shows (listed cs)) t (change_at r t)
until_listed cs ds t r k d h = rw (found_is cs ds t r k d h) (until_open (listed cs) t (canonical_linked (listed cs) k))

-- ---- a list by halves

pub past_turn : (from : Option ℤ) (until : End) (ss line : List Segment) → IsCanonical ss → is_past from ss ≡ true → line ≡ joined_all line (part from until ss)
past_turn None until ss line k h = absurd (false≢true h)
past_turn (Some f) until ss line k h = sym (ap (joined_all line) (ended_part f until ss (canonical_linked ss k) h))

pub slice_late : (from : Option ℤ) (until : End) (ss line : List Segment) → IsCanonical ss → starts_late until ss ≡ true → line ≡ joined_all line (part from until ss)
slice_late from until ss line k h = sym (ap (joined_all line) (late_part from until ss (canonical_linked ss k) h))

-- a canonical list in two
pub record AreHalves (front back all : List Segment) : Type 0 where
  pub whole : all ≡ front ++ back
  pub front_canonical : IsCanonical front
  pub back_canonical : IsCanonical back

pub halves : (front back all : List Segment) (n : ℕ) → front ≡ take n all → back ≡ drop n all → IsCanonical all → AreHalves front back all
halves front back all n f b k =
    let same : all ≡ front ++ back = rw (f, b) (sym (take-append-drop n all)) in
    record {
      whole = same;
      front_canonical = canonical_front front back (rw same at k);
      back_canonical = canonical_back front back (rw same at k);
    }

pub halves_joined : (from : Option ℤ) (until : End) (front back all line between new : List Segment) → all ≡ front ++ back → between ≡ joined_all line (part from until front) → new ≡ joined_all between (part from until back) → new ≡ joined_all line (part from until all)
halves_joined from until front back all line between new w b n = rw (n, b, w) (sym (joined_part_append line from until front back))
