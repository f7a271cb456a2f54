-- What a list of segments winner_in with a piece at its end, and that it stays canonical.
use Rattle.std.proofs.Common.{◌≡◌, ◌≢◌, ℕ, Bool, true, false, ◌&&◌, ◌==◌, List, [], ◌∷◌, Option, Some, None, if◌then◌else◌, refl, ap, arith, ℤ, int_le, int_lt}
use Rattle.std.specs.List.{AllByRecursion}
use Rattle.std.proofs.lemmas.Int.{ints}
use Rattle.std.proofs.lemmas.Bool.{and_parts, and_from, both_ways, cond_both, eqb-true, false≢true}
use Rattle.std.proofs.lemmas.Bool.Decides.{nat_tests, Decides-int_eq}
use Rattle.adr_time.specs.declared.span.End.{End}
use Rattle.adr_time.specs.declared.span.End.TheVariants.{At, Endless}
use Rattle.adr_model.specs.declared.timeline.Segment.{Segment}
use Rattle.adr_model.specs.declared.timeline.Winner.{Winner}
use Rattle.adr_time.specs.Spans.{covers, ends_at, is_before}
use Rattle.adr_model.specs.Timeline.{span_of}
use Rattle.adr_timeline.proofs.Segments.{winner_in, EndsBy, IsApart, IsLinked}
use Rattle.adr_timeline.specs.Parts.{same_winner, leads_to, joined}

-- each segment ends at or before the end
abbrev pub IsBehind : List Segment → End → Type 0
IsBehind ss (At t) = AllByRecursion (λ s. EndsBy s.end t) ss
IsBehind ss Endless = Unit {0}

-- a segment that ends before a piece begins covers none of the piece's instants
ahead : (a : ℤ) (e : End) (b : ℤ) (f : End) (t : ℤ) → EndsBy e b → (int_le b t && is_before t f) ≡ true → (int_le a t && is_before t e) ≡ false
ahead a (At u) b (At v) t h k = grind (arith, ints)
ahead a (At u) b Endless t h k = grind (arith, ints)
ahead a Endless b f t h k = absurd h

-- two tests of which one at most passes may be swapped
swapped : (x y : Bool) (a b c : Option Winner) → (y ≡ true → x ≡ false) → (if x then a else (if y then b else c)) ≡ (if y then b else (if x then a else c))
swapped true true a b c h = absurd (grind (arith, h refl))
swapped true false a b c h = refl
swapped false y a b c h = refl

-- what the tests say
ends_at_is : (e : End) (t : ℤ) → ends_at e t ≡ true → e ≡ At t
ends_at_is (At u) t h = ap At ((Decides-int_eq u t).0 h)
ends_at_is Endless t h = absurd (false≢true h)

winner_ext : (v w p q : ℕ) → v ≡ w → p ≡ q → ◌≡◌ {A = Winner} (record { written = v; place = p }) (record { written = w; place = q })
winner_ext v w p q h k = cc

same_winner_is : (a b : Winner) → same_winner a b ≡ true → a ≡ b
same_winner_is a b h =
    let parts = and_parts (a.written == b.written) (a.place == b.place) h in
    winner_ext a.written b.written a.place b.place (eqb-true a.written b.written parts.0) (eqb-true a.place b.place parts.1)

-- what leading to a piece says
pub leads_same : (s p : Segment) → leads_to s p ≡ true → (s.end ≡ At p.start) × (s.winner ≡ p.winner)
leads_same s p h =
    let parts = and_parts (ends_at s.end p.start) (same_winner s.winner p.winner) h in
    (ends_at_is s.end p.start parts.0, same_winner_is s.winner p.winner parts.1)

winner_same : (a : Winner) → same_winner a a ≡ true
winner_same a = grind (arith, nat_tests)

same_leads : (s p : Segment) → leads_to s p ≡ false → s.end ≡ At p.start → s.winner ≢ p.winner
same_leads s p h e w =
    let here : ends_at s.end p.start ≡ true = rw e ((Decides-int_eq p.start p.start).1 refl) in
    let same : same_winner s.winner p.winner ≡ true = rw w (winner_same p.winner) in
    both_ways (leads_to s p) h (and_from (ends_at s.end p.start) (same_winner s.winner p.winner) here same)

-- a segment that goes on to the end of the piece
grown : (a b : ℤ) (e : End) (t : ℤ) (w : Option Winner) → int_lt a b ≡ true → is_before b e ≡ true → (if int_le a t && is_before t e then w else None) ≡ (if int_le b t && is_before t e then w else (if int_le a t && int_lt t b then w else None))
grown a b (At e) t w h k = grind (arith, ints)
grown a b Endless t w h k = grind (arith, ints)

shows_grown : (a : ℤ) (e : End) (w : Winner) (p : Segment) (t : ℤ) → e ≡ At p.start → w ≡ p.winner → is_before a e ≡ true → is_before p.start p.end ≡ true → (if int_le a t && is_before t p.end then Some w else None) ≡ (if covers (span_of p) t then Some p.winner else (if int_le a t && is_before t e then Some w else None))
shows_grown a e w p t here same n h = rw (here, same) (grown a p.start p.end t (Some p.winner) (rw here at n) h)

-- the last segment is put together with the piece, or the piece comes after it
shows_last : (s p : Segment) (x : Bool) (t : ℤ) → leads_to s p ≡ x → is_before s.start s.end ≡ true → EndsBy s.end p.start → is_before p.start p.end ≡ true → winner_in (if x then record s { end = p.end } ∷ [] else s ∷ p ∷ []) t ≡ (if covers (span_of p) t then Some p.winner else winner_in (s ∷ []) t)
shows_last s p true t l n e h = let same = leads_same s p l in shows_grown s.start s.end s.winner p t same.0 same.1 n h
shows_last s p false t l n e h = swapped (covers (span_of s) t) (covers (span_of p) t) (Some s.winner) (Some p.winner) None (ahead s.start s.end p.start p.end t e)

pub shows_joined : (ss : List Segment) (p : Segment) (t : ℤ) → IsLinked ss → IsBehind ss (At p.start) → is_before p.start p.end ≡ true → winner_in (joined ss p) t ≡ (if covers (span_of p) t then Some p.winner else winner_in ss t)
shows_joined [] p t c b h = refl
shows_joined (s ∷ []) p t c b h = shows_last s p (leads_to s p) t refl c.0 b.0 h
shows_joined (s ∷ (r ∷ rs)) p t c b h =
    rw (shows_joined (r ∷ rs) p t c.2 b.1 h) (swapped (covers (span_of s) t) (covers (span_of p) t) (Some s.winner) (Some p.winner) (winner_in (r ∷ rs) t) (ahead s.start s.end p.start p.end t b.0))

-- the list begins as before
apart_joined : (s r : Segment) (rs : List Segment) (p : Segment) → IsApart s (r ∷ rs) → IsApart s (joined (r ∷ rs) p)
apart_joined s r [] p h = cond_both (leads_to r p) (record r { end = p.end } ∷ []) (r ∷ p ∷ []) (λ xs. IsApart s xs) (λ _. h) (λ _. h)
apart_joined s r (q ∷ qs) p h = h

before_before : (a b : ℤ) (e : End) → int_lt a b ≡ true → is_before b e ≡ true → is_before a e ≡ true
before_before a b (At u) h k = grind (arith, ints)
before_before a b Endless h k = refl

canonical_last : (s p : Segment) (x : Bool) → leads_to s p ≡ x → is_before s.start s.end ≡ true → EndsBy s.end p.start → is_before p.start p.end ≡ true → IsLinked (if x then record s { end = p.end } ∷ [] else s ∷ p ∷ [])
canonical_last s p true l n e h = (before_before s.start p.start p.end (rw (leads_same s p l).0 at n) h, tt, tt)
canonical_last s p false l n e h = (n, (e, same_leads s p l), (h, tt, tt))

pub canonical_joined : (ss : List Segment) (p : Segment) → IsLinked ss → IsBehind ss (At p.start) → is_before p.start p.end ≡ true → IsLinked (joined ss p)
canonical_joined [] p c b h = (h, tt, tt)
canonical_joined (s ∷ []) p c b h = canonical_last s p (leads_to s p) refl c.0 b.0 h
canonical_joined (s ∷ (r ∷ rs)) p c b h = (c.0, apart_joined s r rs p c.1, canonical_joined (r ∷ rs) p c.2 b.1 h)

-- the ends move on with the piece
ends_later : (e : End) (t u : ℤ) → EndsBy e t → int_lt t u ≡ true → EndsBy e u
ends_later (At v) t u b h = grind (arith, ints)
ends_later Endless t u b h = b

ends_there : (e : End) (u : ℤ) → e ≡ At u → EndsBy e u
ends_there e u h = rw h (omega (arith, ints))

behind_all : (ss : List Segment) (p : Segment) (u : ℤ) → p.end ≡ At u → int_lt p.start u ≡ true → IsBehind ss (At p.start) → IsBehind (joined ss p) (At u)
behind_all [] p u e h b = (ends_there p.end u e, tt)
behind_all (s ∷ []) p u e h b = cond_both (leads_to s p) (record s { end = p.end } ∷ []) (s ∷ p ∷ []) (λ xs. IsBehind xs (At u)) (λ _. (ends_there p.end u e, tt)) (λ _. (ends_later s.end p.start u b.0 h, (ends_there p.end u e, tt)))
behind_all (s ∷ (r ∷ rs)) p u e h b = (ends_later s.end p.start u b.0 h, behind_all (r ∷ rs) p u e h b.1)

behind_at : (ss : List Segment) (p : Segment) (e : End) → p.end ≡ e → is_before p.start e ≡ true → IsBehind ss (At p.start) → IsBehind (joined ss p) e
behind_at ss p (At u) k h b = behind_all ss p u k h b
behind_at ss p Endless k h b = tt

pub behind_joined : (ss : List Segment) (p : Segment) → IsBehind ss (At p.start) → is_before p.start p.end ≡ true → IsBehind (joined ss p) p.end
behind_joined ss p b h = behind_at ss p p.end refl h b
