-- The steps of entries that come in turn, by place.
use Rattle.std.proofs.Common.{◌≡◌, ℕ, zero, suc, ◌+◌, ◌*◌, ◌-◌, ◌/◌, ◌%◌, ◌<◌, true, List, [], ◌∷◌, ◌++◌, length, drop, get_or, slice_get, Some, refl, sym, ◌∙◌, ap, arith, ℤ}
use Rattle.std.proofs.Math.Nat.{div-add-mod}
use Rattle.std.proofs.lemmas.Bool.{false≢true}
use Rattle.std.proofs.lemmas.List.{append-nil, drop_all, get_or-drop, length-drop}
use Rattle.std.proofs.lemmas.Option.{get_or_from_slice_get, slice_get_read, slice_get_within}
use Rattle.adr_time.specs.declared.span.End.{End}
use Rattle.adr_time.specs.declared.span.End.TheVariants.{At, Endless}
use Rattle.adr_model.specs.declared.entry.Entry.{Entry}
use Rattle.adr_model.specs.declared.entry.Rank.{Rank}
use Rattle.adr_timeline.specs.declared.step.RankStep.{RankStep}
use Rattle.adr_timeline.specs.Steps.{down_at, starts_from, is_run, steps_in_turn}
use Rattle.adr_timeline.proofs.Runs.{down, run_parts, run_ranked, steps_if, up}

-- the steps from an entry on, which the next one does not start before the end of
abbrev IsNext : List Entry → ℕ → Entry → Type 0
IsNext es i e =
    (starts_from e.span.end (drop (suc i) es) ≡ true)
    × (drop (2 * i) (steps_in_turn es) ≡ up e.span.start e.rank ∷ (down_at e.span.end ++ steps_in_turn (drop (suc i) es)))

-- one entry that others come after has two steps
past_one : (a : ℤ) (end : End) (r : Rank) (es : List Entry) (i : ℕ) (steps : List RankStep) → starts_from end es ≡ true → i < length es → drop (2 * i) (steps_in_turn es) ≡ steps → drop (2 * suc i) ((up a r ∷ down_at end) ++ steps_in_turn es) ≡ steps
past_one a (At u) r es i steps s lt h = let two : 2 * suc i ≡ suc (suc (2 * i)) = omega arith in rw two h
past_one a Endless r [] i steps s lt h = absurd (omega arith)
past_one a Endless r (e ∷ es) i steps s lt h = absurd (false≢true s)

next : (es : List Entry) (i : ℕ) (d : Entry) → is_run es ≡ true → i < length es → IsNext es i (get_or es i d)
next [] i d h lt = absurd (omega arith)
next (e ∷ es) zero d h lt = let parts = run_parts e es h in (parts.1, ap (λ (xs : List RankStep). xs ++ steps_in_turn es) (steps_if e parts.0))
next (e ∷ es) (suc i) d h lt =
    let parts = run_parts e es h in
    let rest = next es i d parts.2 (omega arith) in
    (rest.0, rw (steps_if e parts.0) (past_one e.span.start e.span.end e.rank es i _ parts.1 (omega arith) rest.1))

none_after : (es : List Entry) → starts_from Endless es ≡ true → es ≡ []
none_after [] h = refl
none_after (e ∷ es) h = absurd (false≢true h)

length_at : (es : List Entry) (i : ℕ) (d : Entry) → is_run es ≡ true → i < length es → length (steps_in_turn es) ≡ suc (2 * i) + length (down_at (get_or es i d).span.end ++ steps_in_turn (drop (suc i) es))
length_at es i d h lt = omega (arith, ap (λ (xs : List RankStep). length xs) (next es i d h lt).1, length-drop (2 * i) (steps_in_turn es))

-- two steps for each entry, but one where the last is endless
pub count_to : (es : List Entry) (last : Entry) → is_run es ≡ true → Some last ≡ slice_get es (length es - 1) → length (steps_in_turn es) + 1 ≡ 2 * length es + length (down_at last.span.end)
count_to es last h is =
    let some = slice_get_within es (length es - 1) last (sym is) in
    let none : drop (suc (length es - 1)) es ≡ [] = drop_all (suc (length es - 1)) es (omega arith) in
    omega (arith, rw (none, append-nil, get_or_from_slice_get es (length es - 1) last last (sym is)) at (length_at es (length es - 1) last h some))

pub entry_within : (es : List Entry) (place : ℕ) → is_run es ≡ true → place < length (steps_in_turn es) → place / 2 < length es
entry_within es place h lt = omega (arith, (run_ranked es h).1)

module _ (es : List Entry) (place : ℕ) (d : Entry) (h : is_run es ≡ true) (inside : place < length (steps_in_turn es)) where
  abbrev e : Entry
  e = get_or es (place / 2) d

  there : IsNext es (place / 2) e
  there = next es (place / 2) d h (entry_within es place h inside)

  step_at : (s : RankStep) → s ≡ get_or (up e.span.start e.rank ∷ (down_at e.span.end ++ steps_in_turn (drop (suc (place / 2)) es))) (place % 2) s → slice_get (steps_in_turn es) place ≡ Some s
  step_at s k =
      slice_get_read (steps_in_turn es) (length (steps_in_turn es)) place s refl inside
      (k ∙ (ap (λ (xs : List RankStep). get_or xs (place % 2) s) (sym there.1) ∙ (get_or-drop (2 * (place / 2)) (steps_in_turn es) (place % 2) s ∙ ap (λ (i : ℕ). get_or (steps_in_turn es) i s) (div-add-mod place 2))))

  pub up_there : place % 2 ≡ 0 → slice_get (steps_in_turn es) place ≡ Some (up e.span.start e.rank)
  up_there k = step_at (up e.span.start e.rank) (rw k refl)

  pub down_there : (u : ℤ) → place % 2 ≡ 1 → e.span.end ≡ At u → slice_get (steps_in_turn es) place ≡ Some (down u)
  down_there u k end = step_at (down u) (rw (k, end) refl)

  pub none_there : place % 2 ≡ 1 → e.span.end ≡ Endless → ⊥
  none_there k end =
      let none : drop (suc (place / 2)) es ≡ [] = none_after (drop (suc (place / 2)) es) (rw end at there.0) in
      omega (arith, div-add-mod place 2, rw (end, none) at (length_at es (place / 2) d h (entry_within es place h inside)))
