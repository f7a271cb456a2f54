-- Why a line is right after events were exchanged in it.
use Rattle.std.proofs.Common.{◌≡◌, ◌⊎◌, inl, inr, ℕ, ℤ, ◌||◌, Bool, true, false, if◌then◌else◌, List, drop, take, Option, Some, None, refl, ap, sym, subst, ◌∙◌}
use Rattle.std.proofs.lemmas.Bool.{both_ways, false≢true}
use Rattle.adr_time.specs.Spans.{covers}
use Rattle.adr_model.specs.declared.entry.Entry.{Entry}
use Rattle.adr_model.specs.declared.timeline.Segment.{Segment}
use Rattle.adr_model.specs.Governor.{winner_at}
use Rattle.adr_model.specs.Lists.{In}
use Rattle.adr_model.specs.Timeline.{shows}
use Rattle.adr_timeline.specs.Overlay.{spans_of}
use Rattle.adr_timeline.specs.Steps.{is_run}
use Rattle.adr_timeline.specs.Windows.{any_covers}
use Rattle.adr_lines.specs.Grouped.{any_covers_at}
use Rattle.adr_lines.specs.Right.{has_number, written_in}
use Rattle.adr_group.specs.declared.job.Held.{Held}
use Rattle.adr_group.specs.Governed.{is_of, IsWithout}
use Rattle.adr_group.specs.Laid.{least_over, IsHeld}
use Rattle.adr_group.specs.Repair.{IsRepaired}
use Rattle.adr_group.specs.Writes.{changed_number, is_number}
use Rattle.adr_group.proofs.Joining.{laid_wins, others_win, some_covers}
use Rattle.adr_group.proofs.Owned.{spans_cover}
use Rattle.adr_group.proofs.Parting.{same_winner, stays_winner}
use Rattle.adr_group.proofs.Seen.{entries_append, halves}

-- what shows the event where the windows do not reach shows it nowhere
pub none_left_out : (writes : List ℕ) (es : List Entry) (number : ℕ) (left kept : List Entry) (line after : List Segment)
    → ((t : ℤ) → any_covers_at left t ≡ true → any_covers_at kept t ≡ false → is_of number (shows line t) ≡ false)
    → ((t : ℤ) → shows after t ≡ (if any_covers_at kept t then winner_at (written_in writes es) t else shows line t))
    → IsWithout writes es number left line after
none_left_out writes es number left kept line after others made t = by (any_covers_at kept t) refl (made t)
  where
    by : (b : Bool) → any_covers_at kept t ≡ b → shows after t ≡ (if b then winner_at (written_in writes es) t else shows line t)
        → (shows after t ≡ winner_at (written_in writes es) t) ⊎ ((shows after t ≡ shows line t) × (any_covers_at left t ≡ true → is_of number (shows line t) ≡ false))
    by true c h = inl h
    by false c h = inr (h, λ covered. others t covered c)

module _ (writes : List ℕ) (es windows : List Entry) (before : List Segment) (held : Held) (h : IsHeld writes es windows before held) where
  abbrev left : List Entry
  left = take held.leaving windows

  abbrev come : List Entry
  come = drop held.leaving windows

  parts : (t : ℤ) → any_covers_at windows t ≡ (any_covers_at left t || any_covers_at come t)
  parts t = ap (λ (ws : List Entry). any_covers_at ws t) (halves left come windows held.leaving refl refl) ∙ entries_append left come t

  -- none of the event that goes covers where its windows don't
  none_there : (t : ℤ) → any_covers_at left t ≡ false → (e : Entry) → In e es → covers e.span t ≡ true → is_number held.gone e.rank.written ≡ true → ⊥
  none_there t none e m c k = both_ways (any_covers_at left t) none (some_covers left t e (h.own e m k) c)

  outside : (t : ℤ) → any_covers_at windows t ≡ false → winner_at (written_in writes es) t ≡ shows before t
  outside t none = by (any_covers_at left t) (any_covers_at come t) refl refl (sym (parts t) ∙ none)
    where
      by : (a b : Bool) → any_covers_at left t ≡ a → any_covers_at come t ≡ b → (a || b) ≡ false → winner_at (written_in writes es) t ≡ shows before t
      by true b k l n = absurd (false≢true (sym n))
      by false true k l n = absurd (false≢true (sym n))
      by false false k l n =
          sym (stays_winner writes h.both held.gone h.goes es t (none_there t k))
          ∙ (sym (others_win es h.others h.both come h.comes t l) ∙ sym (h.right t))

  repaired : (after : List Segment) → ((t : ℤ) → shows after t ≡ winner_at (written_in writes es) t) → IsRepaired writes es windows (shows before) after
  repaired after right t = by (any_covers_at windows t) refl
    where
      by : (b : Bool) → any_covers_at windows t ≡ b → shows after t ≡ (if b then winner_at (written_in writes es) t else shows before t)
      by true c = right t
      by false c = right t ∙ outside t c

  module _ (laid : List Segment)
      (laid_shows : is_run held.shown.items ≡ true → is_run come ≡ true → (t : ℤ) → shows laid t ≡ (if any_covers (spans_of come) t then least_over held.shown.items come t else shows before t)) where
    laid_right : (t : ℤ) → shows laid t ≡ winner_at (written_in h.both es) t
    laid_right t = laid_shows h.in_turn h.run t ∙ by (any_covers (spans_of come) t) refl
      where
        by : (b : Bool) → any_covers (spans_of come) t ≡ b → (if b then least_over held.shown.items come t else shows before t) ≡ winner_at (written_in h.both es) t
        by true c = laid_wins es h.others h.both come h.comes t held.shown.items (h.shown t c)
        by false c = h.right t ∙ others_win es h.others h.both come h.comes t (sym (spans_cover come t) ∙ c)

    -- where none goes
    pub only_laid : held.gone ≡ None → IsRepaired writes es windows (shows before) laid
    only_laid none = repaired laid (λ t. laid_right t ∙ stays_winner writes h.both held.gone h.goes es t (λ e m c k. absurd (false≢true (subst (λ (o : Option ℕ). is_number o e.rank.written ≡ true) none k))))

    -- where one goes
    pub laid_and_left : (number : ℕ) (after : List Segment) → held.gone ≡ Some number → IsWithout writes es number left laid after → IsRepaired writes es windows (shows before) after
    laid_and_left number after gone made = repaired after (λ t. by t (made t))
      where
        either : (t : ℤ) (b : Bool) → any_covers_at left t ≡ b → (any_covers_at left t ≡ true → is_of number (shows laid t) ≡ false) → winner_at (written_in h.both es) t ≡ winner_at (written_in writes es) t
        either t true c other =
            same_winner writes h.both number (λ n. subst (λ (o : Option ℕ). has_number writes n ≡ changed_number o None h.both n) gone (h.goes n)) es t
            (ap (is_of number) (sym (laid_right t)) ∙ other c)
        either t false c other = stays_winner writes h.both held.gone h.goes es t (none_there t c)

        by : (t : ℤ) → (shows after t ≡ winner_at (written_in writes es) t) ⊎ ((shows after t ≡ shows laid t) × (any_covers_at left t ≡ true → is_of number (shows laid t) ≡ false))
            → shows after t ≡ winner_at (written_in writes es) t
        by t (inl w) = w
        by t (inr p) = p.0 ∙ laid_right t ∙ either t (any_covers_at left t) refl p.1
