-- What is told of a published version is a timeline of the least matching intervals.
use Rattle.std.proofs.Common.{◌≡◌, ℕ, ℤ, ◌≤ℤ◌, ◌<ℤ◌, true, ◌&&◌, cond, List, None, is_some, sym, ap, subst, ◌∙◌, arith}
use Rattle.std.specs.Prelude.{int_le, int_lt, Ok, Err}
use Rattle.std.proofs.Math.Nat.{le_refl}
use Rattle.std.proofs.lemmas.Int.{ints}
use Rattle.adr_value.specs.declared.payload.PayloadType.{PayloadType}
use Rattle.adr_refusal.specs.declared.refusal.Refusal.TheVariants.{BadWindow, UnknownResource}
use Rattle.adr_model.specs.declared.entry.Tie.{Tie}
use Rattle.adr_model.specs.Answer.{at, at_text, until}
use Rattle.adr_model.specs.Book.{Book, resource_by}
use Rattle.adr_model.specs.Governor.{governs}
use Rattle.adr_model.specs.Edits.{after}
use Rattle.adr_model.specs.Machine.{State, last_book, last_number}
use Rattle.adr_model.specs.Queries.{list, list_text}
use Rattle.adr_model.specs.Timeline.{shows}
use Rattle.adr_model.proofs.AnswerLaws.{until_is_the_next_change}
use Rattle.adr_repair.specs.Ranks.{IsGovernor}
use Rattle.adr_repair.proofs.Least.{governor_is_least}
use Rattle.adr_calendar.specs.Segments.{segments_within}
use Rattle.adr_calendar.proofs.Segments.{lists_tell_timelines}
use Rattle.adr_resolver.specs.Laws.{LinesTellTheLeastMatching, PublishedStatesTellTheLeastMatching, PublishedTimelinesGiveTheLeastMatching, TellsStates, TellsTimelines}
use Rattle.adr_resolver.specs.Reached.{IsLeftBy, accepted_edits, published_edits, state_after}
use Rattle.adr_resolver.specs.Text.{answer_line}
use Rattle.adr_resolver.proofs.Inside.{segments_lie_inside}
use Rattle.adr_resolver.proofs.Reached.{accepted_edits_leave_the_state}

module _ (tie : Tie) (book : Book) (id : List ℕ) (kind : PayloadType) where
  list_told : (from to : ℤ) → from <ℤ to → is_some (resource_by book id) ≡ true → answer_line (list tie book id kind from to) ≡ list_text tie book id kind from to
  unfolding list
  list_told from to less there =
      ap (λ b. answer_line (cond b (cond (is_some (resource_by book id)) (Ok (list_text tie book id kind from to)) (Err UnknownResource)) (Err BadWindow))) (below from to less)
      ∙ ap (λ b. answer_line (cond b (Ok (list_text tie book id kind from to)) (Err UnknownResource))) there
    where
      below : (a b : ℤ) → a <ℤ b → int_lt a b ≡ true
      below a b h = grind (arith, ints)

  at_told : (t : ℤ) → is_some (resource_by book id) ≡ true → answer_line (at tie book id kind t) ≡ at_text tie book id kind t
  unfolding at
  at_told t there = ap (λ b. answer_line (cond b (Ok (at_text tie book id kind t)) (Err UnknownResource))) there

  least_within : (from to t : ℤ) → from ≤ℤ t → t <ℤ to → IsGovernor tie book id kind t (shows (segments_within tie book id kind from to) t)
  least_within from to t low high =
      let same : shows (segments_within tie book id kind from to) t ≡ governs tie book id kind t =
      (lists_tell_timelines tie book id kind from to).0.governed t
      ∙ ap (λ b. cond b (governs tie book id kind t) None) (inside from to t low high) in
      subst (IsGovernor tie book id kind t) (sym same) (governor_is_least tie book id kind t)
    where
      inside : (a b c : ℤ) → a ≤ℤ c → c <ℤ b → (int_le a c && int_lt c b) ≡ true
      inside a b c h k = grind (arith, ints)

pub published_timelines_give_the_least_matching : PublishedTimelinesGiveTheLeastMatching
published_timelines_give_the_least_matching s id kind from to less there =
    let told = lists_tell_timelines s.tie (last_book s) id kind from to in (
      segments_within s.tie (last_book s) id kind from to,
      told.0.canonical,
      segments_lie_inside s.tie (last_book s) id kind from to,
      (λ t low high. least_within s.tie (last_book s) id kind from to t low high),
      list_told s.tie (last_book s) id kind from to less there ∙ told.1,
    )

pub published_states_tell_the_least_matching : PublishedStatesTellTheLeastMatching
published_states_tell_the_least_matching s id kind t there = (
  governs s.tie (last_book s) id kind t,
  until s.tie (last_book s) id kind t,
  governor_is_least s.tie (last_book s) id kind t,
  until_is_the_next_change s.tie (last_book s) id kind t,
  at_told s.tie (last_book s) id kind t there,
)

pub lines_tell_the_least_matching : LinesTellTheLeastMatching
lines_tell_the_least_matching tie marks lines = (
  subst (λ b. TellsTimelines end tie b) objects (subst (λ r. TellsTimelines end r (last_book end)) left.0 (published_timelines_give_the_least_matching end)),
  subst (λ b. TellsStates end tie b) objects (subst (λ r. TellsStates end r (last_book end)) left.0 (published_states_tell_the_least_matching end)),
)
  where
    end : State
    end = state_after tie marks lines

    left : (end.tie ≡ tie) × IsLeftBy (accepted_edits tie marks lines) end
    left = accepted_edits_leave_the_state tie marks lines

    objects : last_book end ≡ after (published_edits tie marks lines)
    objects = left.1.published (last_number end) (le_refl (last_number end))
