-- What a timeline shows and when it is canonical, part by part.
use Rattle.std.proofs.Common.{◌≡◌, ◌≢◌, Bool, true, false, cond, ◌&&◌, zero, suc, List, [], ◌∷◌, Some, IsTrue, All, find, if◌then◌else◌, refl, arith, ap, ℤ}
use Rattle.std.specs.Option.{option_map}
use Rattle.adr_time.specs.Spans.{covers, is_before}
use Rattle.adr_time.specs.declared.span.End.{End}
use Rattle.adr_time.specs.declared.span.End.TheVariants.{At, Endless}
use Rattle.adr_model.specs.declared.timeline.Segment.{Segment}
use Rattle.adr_model.specs.Timeline.{span_of, shows, Follows, AllFollow, IsCanonical}
use Rattle.adr_timeline.proofs.Segments.{winner_in, EndsBy, IsApart, IsLinked}

pub and_true : (x : Bool) → (x && true) ≡ x
and_true true = refl
and_true false = refl

pub shows_is : (ss : List Segment) (t : ℤ) → shows ss t ≡ winner_in ss t
shows_is [] t = refl
shows_is (s ∷ ss) t = either (covers (span_of s) t) (shows_is ss t)
  where
    either : (x : Bool) → shows ss t ≡ winner_in ss t → option_map (λ (r : Segment). r.winner) (cond x (Some s) (find (λ (r : Segment). covers (span_of r) t) ss)) ≡ (if x then Some s.winner else winner_in ss t)
    either true rest = refl
    either false rest = rest

ends : (e : End) (u a : ℤ) → e ≡ At u → e ≡ At a → u ≡ a
ends e u a h k = cc

apart : (s r : Segment) (rs : List Segment) → Follows s r → IsApart s (r ∷ rs)
apart s r rs f = (rw f.1 f.2, λ touching. f.3 (ends s.end f.0 r.start f.1 touching))

linked : (s : Segment) (ss : List Segment) → All (λ x. IsTrue (is_before x.start x.end)) (s ∷ ss) → AllFollow s ss → IsLinked (s ∷ ss)
linked s [] a f = (a 0 s (omega arith), tt, tt)
linked s (r ∷ rs) a f = (a 0 s (omega arith), apart s r rs f.0, linked r rs (λ k d lt. a (suc k) d (omega arith)) f.1)

pub canonical_linked : (ss : List Segment) → IsCanonical ss → IsLinked ss
canonical_linked [] c = tt
canonical_linked (s ∷ ss) c = linked s ss c.0 c.1

follows : (s r : Segment) (e : End) → s.end ≡ e → EndsBy e r.start → (e ≡ At r.start → s.winner ≢ r.winner) → Follows s r
follows s r (At u) h b d = (u, h, b, λ same. d (ap At same))
follows s r Endless h b d = absurd b

all_follow : (s : Segment) (ss : List Segment) → IsLinked (s ∷ ss) → AllFollow s ss
all_follow s [] c = tt
all_follow s (r ∷ rs) c = (follows s r s.end refl c.1.0 c.1.1, all_follow r rs c.2)

all_last : (s : Segment) (ss : List Segment) → IsLinked (s ∷ ss) → All (λ x. IsTrue (is_before x.start x.end)) (s ∷ ss)
all_last s ss c zero d lt = c.0
all_last s [] c (suc k) d lt = absurd (omega arith)
all_last s (r ∷ rs) c (suc k) d lt = all_last r rs c.2 k d (omega arith)

pub linked_canonical : (ss : List Segment) → IsLinked ss → IsCanonical ss
linked_canonical [] c = tt
linked_canonical (s ∷ ss) c = (all_last s ss c, all_follow s ss c)
