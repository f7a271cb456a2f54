-- The steps of entries that come one after the other.
use Rattle.std.proofs.Common.{◌≡◌, ◌+◌, ◌*◌, ◌≤◌, Bool, true, false, not, ◌&&◌, List, [], ◌∷◌, ◌++◌, length, map, Option, Some, None, refl, sym, ◌∙◌, ap, arith, ℤ, int_le, int_lt}
use Rattle.std.proofs.lemmas.Int.{ints}
use Rattle.std.proofs.lemmas.Bool.{false≢true, and_parts}
use Rattle.adr_time.specs.Spans.{is_before}
use Rattle.adr_time.specs.declared.span.End.{End}
use Rattle.adr_time.specs.declared.span.End.TheVariants.{At, Endless}
use Rattle.adr_time.specs.declared.span.Span.{Span}
use Rattle.adr_model.specs.declared.entry.Entry.{Entry}
use Rattle.adr_model.specs.declared.entry.Rank.{Rank}
use Rattle.adr_model.specs.declared.timeline.Segment.{Segment}
use Rattle.adr_timeline.specs.declared.step.RankStep.{RankStep}
use Rattle.adr_timeline.specs.Build.{Takes}
use Rattle.adr_timeline.specs.Parts.{joined_all, part}
use Rattle.adr_timeline.specs.Steps.{Adds, AreRanked, IsMergeOf, goes_left, down_at, own_segment, pieces, steps_of, starts_from, is_run, rises, steps_in_turn, winner_of_rank}
use Rattle.adr_timeline.proofs.Merged.{IsMerge, merge_none, merge_left, merge_right, merged_whole}
use Rattle.adr_timeline.proofs.Least.{rank_append}
use Rattle.adr_timeline.proofs.Stepped.{steps_rank, steps_order, steps_few}

-- the steps start at the end or later
abbrev StartFrom : End → List RankStep → Type 0
StartFrom e [] = Unit {0}
StartFrom e (s ∷ ss) = not (is_before s.from e) ≡ true

-- nothing comes before the rest
merge_rest : (b : Option Rank) (rest : List RankStep) → IsMerge None b [] rest rest
merge_rest b [] = merge_none None b
merge_rest b (s ∷ ss) = merge_right None b s.rank s [] ss ss refl refl (merge_rest s.rank ss)

abbrev pub up : ℤ → Rank → RankStep
up a r = record { from = a; rank = Some r }

abbrev pub down : ℤ → RankStep
down u = record { from = u; rank = None }

le_of_not : (u t : ℤ) → not (int_lt t u) ≡ true → int_le u t ≡ true
le_of_not u t h = grind (arith, ints)

le_through : (a u t : ℤ) → int_lt a u ≡ true → not (int_lt t u) ≡ true → int_le a t ≡ true
le_through a u t h k = grind (arith, ints)

down_first : (u : ℤ) (rest : List RankStep) → StartFrom (At u) rest → goes_left (down u ∷ []) rest ≡ true
down_first u [] h = refl
down_first u (s ∷ ss) h = le_of_not u s.from h

up_first : (a u : ℤ) (r : Rank) (rest : List RankStep) → int_lt a u ≡ true → StartFrom (At u) rest → goes_left (up a r ∷ (down u ∷ [])) rest ≡ true
up_first a u r [] n h = refl
up_first a u r (s ∷ ss) n h = le_through a u s.from n h

-- the steps of one entry, and those that start where it ends or later
merge_entry : (a : ℤ) (e : End) (r : Rank) (rest : List RankStep) → is_before a e ≡ true → StartFrom e rest → IsMerge None None (up a r ∷ down_at e) rest ((up a r ∷ down_at e) ++ rest)
merge_entry a (At u) r rest n h =
    merge_left None None (Some r) (up a r) (down u ∷ []) rest (down u ∷ rest) (up_first a u r rest n h) refl
    (merge_left (Some r) None None (down u) [] rest rest (down_first u rest h) refl (merge_rest None rest))
merge_entry a Endless r [] n h = merge_left None None (Some r) (up a r) [] [] [] refl refl (merge_none (Some r) None)
merge_entry a Endless r (s ∷ ss) n h = absurd (false≢true h)

pub steps_if : (e : Entry) → is_before e.span.start e.span.end ≡ true → steps_of e ≡ up e.span.start e.rank ∷ down_at e.span.end
steps_if e h = rw h refl

pub run_parts : (e : Entry) (es : List Entry) → is_run (e ∷ es) ≡ true → (is_before e.span.start e.span.end ≡ true) × (starts_from e.span.end es ≡ true) × (is_run es ≡ true)
run_parts e es h =
    let rest = and_parts (is_before e.span.start e.span.end && starts_from e.span.end es) (is_run es) h in
    let first = and_parts (is_before e.span.start e.span.end) (starts_from e.span.end es) rest.0 in
    (first.0, first.1, rest.1)

turn_starts : (end : End) (es : List Entry) → starts_from end es ≡ true → is_run es ≡ true → StartFrom end (steps_in_turn es)
turn_starts end [] h k = tt
turn_starts end (e ∷ es) h k = rw (steps_if e (run_parts e es k).0) h

-- the steps of one entry, merged with those of entries in turn
pub one_ranked : (e : Entry) (es : List Entry) (steps : List RankStep) → AreRanked es (steps_in_turn es) → IsMergeOf (steps_of e) (steps_in_turn es) steps → AreRanked (e ∷ es) steps
one_ranked e es steps rest merged = (
  merged.0,
  omega (arith, merged.1, steps_few e, rest.1),
  λ t. merged.2 t ∙ (rw (steps_rank e t, rest.2 t) (sym (rank_append (e ∷ []) es t))),
)

pub run_ranked : (es : List Entry) → is_run es ≡ true → AreRanked es (steps_in_turn es)
run_ranked [] h = (tt, omega arith, λ t. refl)
run_ranked (e ∷ es) h =
    let parts = run_parts e es h in
    let rest = run_ranked es parts.2 in
    let merged : IsMerge None None (steps_of e) (steps_in_turn es) (steps_of e ++ steps_in_turn es) = rw (steps_if e parts.0) (merge_entry e.span.start e.span.end e.rank (steps_in_turn es) parts.0 (turn_starts e.span.end es parts.1 parts.2)) in
    one_ranked e es (steps_of e ++ steps_in_turn es) rest (merged_whole (steps_of e) (steps_in_turn es) (steps_of e ++ steps_in_turn es) merged (steps_order e) rest.0)

-- one step of each leads up
pub run_rises : (es : List Entry) → rises (steps_in_turn es) ≤ length es
run_rises [] = omega arith
run_rises (e ∷ es) = let parts = rises_append (steps_of e) (steps_in_turn es) in omega (arith, parts, one_rises e, run_rises es)
  where
    rises_append : (xs ys : List RankStep) → rises (xs ++ ys) ≡ rises xs + rises ys
    rises_append [] ys = omega arith
    rises_append (x ∷ xs) ys = let rest = rises_append xs ys in omega (arith, rest)

    down_rises : (end : End) → rises (down_at end) ≡ 0
    down_rises (At u) = refl
    down_rises Endless = refl

    one_rises : (e : Entry) → rises (steps_of e) ≤ 1
    one_rises e = by (is_before e.span.start e.span.end) refl
      where
        by : (x : Bool) → is_before e.span.start e.span.end ≡ x → rises (steps_of e) ≤ 1
        by true h = let up_down = ap rises (steps_if e h) in omega (arith, up_down, down_rises e.span.end)
        by false h = rw h (omega arith)

pub one_few : (e : Entry) (es run : List Entry) (left : List RankStep) → left ≡ steps_of e → run ≡ es → is_run es ≡ true → length left + length (steps_in_turn run) ≤ 2 * (1 + length es)
one_few e es run left l r h = rw (l, r) (omega (arith, steps_few e, (run_ranked es h).1))

pub run_added : (es : List Entry) (old new : List RankStep) → is_run es ≡ true → new ≡ old ++ steps_in_turn es → Adds (AreRanked es) old new
run_added es old new h n = (steps_in_turn es, n, run_ranked es h)

-- the pieces of one entry, and of those that start where it ends or later
entry_pieces : (a : ℤ) (end : End) (r : Rank) (es : List Entry) → starts_from end es ≡ true → pieces (steps_in_turn es) ≡ map own_segment es → pieces ((up a r ∷ down_at end) ++ steps_in_turn es) ≡ record { start = a; end = end; winner = winner_of_rank r } ∷ map own_segment es
entry_pieces a (At u) r es h rest = ap (λ (ss : List Segment). record { start = a; end = At u; winner = winner_of_rank r } ∷ ss) rest
entry_pieces a Endless r [] h rest = refl
entry_pieces a Endless r (e ∷ es) h rest = absurd (false≢true h)

run_pieces : (es : List Entry) → is_run es ≡ true → pieces (steps_in_turn es) ≡ map own_segment es
run_pieces [] h = refl
run_pieces (e ∷ es) h =
    let parts = run_parts e es h in
    rw (steps_if e parts.0) (entry_pieces e.span.start e.span.end e.rank es parts.1 (run_pieces es parts.2))

pub run_taken : (es : List Entry) (w : Span) (old new : List Segment) → is_run es ≡ true → new ≡ joined_all old (part (Some w.start) w.end (map own_segment es)) → Takes es w old new
run_taken es w old new h n =
    let ranked = run_ranked es h in
    (steps_in_turn es, ranked.0, ranked.2, n ∙ ap (λ (ss : List Segment). joined_all old (part (Some w.start) w.end ss)) (sym (run_pieces es h)))
