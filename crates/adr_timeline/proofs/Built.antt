-- What a list shows that has the winners in each of some windows.
use Rattle.std.proofs.Common.{◌≡◌, Bool, true, false, ◌&&◌, ◌||◌, List, [], ◌∷◌, length, Option, Some, None, if◌then◌else◌, refl, ◌∙◌, ap, arith, ℤ, ◌≤ℤ◌, int_le}
use Rattle.std.specs.Option.{option_map}
use Rattle.std.proofs.lemmas.Int.{ints}
use Rattle.std.proofs.lemmas.Bool.{false≢true, and_parts}
use Rattle.adr_time.specs.Spans.{covers, is_before}
use Rattle.adr_time.specs.declared.span.End.{End}
use Rattle.adr_time.specs.declared.span.End.TheVariants.{At, Endless}
use Rattle.adr_time.specs.declared.span.Span.{Span}
use Rattle.adr_model.specs.declared.entry.Entry.{Entry}
use Rattle.adr_model.specs.declared.timeline.Segment.{Segment}
use Rattle.adr_model.specs.declared.timeline.Winner.{Winner}
use Rattle.adr_model.specs.Entries.{meeting}
use Rattle.adr_model.specs.Governor.{winner_at}
use Rattle.adr_model.specs.Timeline.{shows, IsCanonical}
use Rattle.adr_timeline.specs.Build.{Takes}
use Rattle.adr_timeline.specs.Parts.{part, joined_all}
use Rattle.adr_timeline.specs.Steps.{pieces, winner_of_rank}
use Rattle.adr_timeline.specs.Windows.{any_covers, are_apart}
use Rattle.adr_timeline.proofs.Segments.{winner_in, EndsBy, IsLinked}
use Rattle.adr_timeline.proofs.Shown.{IsBehind}
use Rattle.adr_timeline.proofs.Words.{shows_is, linked_canonical}
use Rattle.adr_timeline.proofs.Pieces.{or_else, behind_le, joined_all_is, behind_joined_all, part_shows, ordered_part, behind_part, ready_part, or_none}
use Rattle.adr_timeline.proofs.Stepped.{pieces_show, pieces_spread, winner_meeting}
use Rattle.adr_timeline.proofs.Spliced.{AreFrom, apart_parts, lasts_le}
use Rattle.adr_timeline.proofs.Least.{winner_rank}

-- the list ends where the first of the windows begins, or before
abbrev pub IsReadyFor : List Segment → List Span → Type 0
IsReadyFor out [] = Unit {0}
IsReadyFor out (w ∷ ws) = IsBehind out (At w.start)

-- the windows that are left, and the list so far, lead to what all windows show
pub record IsUnderWay (es : List Entry) (all left : List Span) (out : List Segment) : Type 0 where
  pub linked : IsLinked out
  pub ready : IsReadyFor out left
  pub apart : are_apart left ≡ true
  pub shown : (t : ℤ) → (if any_covers left t then winner_at es t else winner_in out t) ≡ (if any_covers all t then winner_at es t else None)

ready_nil : (ws : List Span) → IsReadyFor [] ws
ready_nil [] = tt
ready_nil (w ∷ ws) = tt

pub begun : (es : List Entry) (ws : List Span) (out : List Segment) → out ≡ [] → are_apart ws ≡ true → IsUnderWay es ws ws out
begun es ws out o a = rw o (record { linked = tt; ready = ready_nil ws; apart = a; shown = λ t. refl })

-- what ends by an instant shows nothing from it on
over_by : (a : ℤ) (e : End) (u t : ℤ) → EndsBy e u → int_le u t ≡ true → (int_le a t && is_before t e) ≡ false
over_by a (At v) u t h k = grind (arith, ints)
over_by a Endless u t h k = absurd h

behind_none : (out : List Segment) (u t : ℤ) → IsBehind out (At u) → int_le u t ≡ true → winner_in out t ≡ None
behind_none [] u t b h = refl
behind_none (s ∷ ss) u t b h = rw (over_by s.start s.end u t b.0 h) (behind_none ss u t b.1 h)

-- the list with a window's part ends where the next one begins, or before
ready_next : (a : ℤ) (e : End) (out ss : List Segment) (ws : List Span) → is_before a e ≡ true → IsBehind out (At a) → AreFrom (Some e) ws → IsReadyFor (joined_all out (part (Some a) e ss)) ws
ready_next a e out ss [] n b f = tt
ready_next a (At u) out ss (v ∷ vs) n b f =
    let le : u ≤ℤ v.start = grind (arith, ints) in
    behind_le (joined_all out (part (Some a) (At u) ss)) u v.start
    (behind_joined_all (part (Some a) (At u) ss) out u (behind_le out a u b (lasts_le a u n)) (behind_part (Some a) u ss))
    le
ready_next a Endless out ss (v ∷ vs) n b f = absurd (false≢true f)

-- one window: m in a later one, c in this one
one_window : (m c : Bool) (win shown inside out : Option Winner) → (if c then shown else None) ≡ (if c then win else None) → inside ≡ or_else (if c then shown else None) out → (c ≡ true → out ≡ None) → (if m then win else inside) ≡ (if c || m then win else out)
one_window true true win shown inside out s i n = refl
one_window true false win shown inside out s i n = refl
one_window false true win shown inside out s i n = i ∙ (rw (s, n refl) (or_none win))
one_window false false win shown inside out s i n = i

module _ (es : List Entry) (all : List Span) (w : Span) (ws : List Span) (old new : List Segment) where
  taken : (left : List Span) → left ≡ w ∷ ws → IsUnderWay es all (w ∷ ws) old → Takes (meeting es w) w old new → IsUnderWay es all ws new
  taken left l so_far took =
      let parts = apart_parts w ws so_far.apart in
      let ss = pieces took.0 in
      let spread = pieces_spread took.0 took.1 in
      let inside = joined_all_is (part (Some w.start) w.end ss) old so_far.linked (ready_part old w.start w.end ss so_far.ready) (ordered_part (Some w.start) w.end ss spread) in
      let wins : (t : ℤ) → winner_in ss t ≡ winner_at (meeting es w) t = λ t. pieces_show took.0 t took.1 ∙ (ap (option_map winner_of_rank) (took.2 t) ∙ winner_rank (meeting es w) t) in
      rw (took.3) (record {
        linked = inside.canonical;
        ready = ready_next w.start w.end old ss ws parts.0 so_far.ready parts.1;
        apart = parts.2;
        shown = λ t.
            one_window (any_covers ws t) (covers w t) (winner_at es t) (winner_in ss t) (winner_in (joined_all old (part (Some w.start) w.end ss)) t) (winner_in old t)
            (ap (λ (o : Option Winner). if covers w t then o else None) (wins t) ∙ winner_meeting es w t)
            (inside.shown t ∙ ap (λ (o : Option Winner). or_else o (winner_in old t)) (part_shows (Some w.start) w.end ss t))
            (λ c. behind_none old w.start t so_far.ready (and_parts (int_le w.start t) (is_before t w.end) c).0)
            ∙ so_far.shown t;
      })

  -- one window more
  pub window_taken : (left : List Span) → left ≡ w ∷ ws → IsUnderWay es all left old → Takes (meeting es w) w old new → IsUnderWay es all ws new
  window_taken left l so_far took = taken left l (rw l at so_far) took

-- once no window is left
pub record IsBuilt (es : List Entry) (all : List Span) (new : List Segment) : Type 0 where
  pub canonical : IsCanonical new
  pub shown : (t : ℤ) → shows new t ≡ (if any_covers all t then winner_at es t else None)

pub all_taken : (es : List Entry) (all left : List Span) (new : List Segment) → length left ≡ 0 → IsUnderWay es all left new → IsBuilt es all new
all_taken es all [] new none so_far = record {
  canonical = linked_canonical new so_far.linked;
  shown = λ t. shows_is new t ∙ so_far.shown t;
}
all_taken es all (w ∷ ws) new none so_far = absurd (omega arith)
