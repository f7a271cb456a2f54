-- The state of a type at an instant, as any calendar says it.
use Rattle.std.proofs.Common.{◌≡◌, ℕ, ℤ, List, Option, ap, ◌∙◌}
use Rattle.std.specs.Option.{option_and_then}
use Rattle.adr_value.specs.declared.payload.PayloadType.{PayloadType}
use Rattle.adr_time.specs.declared.span.End.{End}
use Rattle.adr_model.specs.declared.entry.Tie.{Tie}
use Rattle.adr_model.specs.declared.timeline.Winner.{Winner}
use Rattle.adr_model.specs.Answer.{shown, shown_of, state_text, until}
use Rattle.adr_model.specs.Book.{Book}
use Rattle.adr_model.specs.Governor.{governs}
use Rattle.adr_calendar.specs.declared.calendar.State.{State}
use Rattle.adr_calendar.specs.Segments.{IsStateAt}

pub state_told : (tie : Tie) (book : Book) (id : List ℕ) (kind : PayloadType) (t : ℤ) (state : State) → IsStateAt tie book id kind t state
    → state_text (option_and_then (shown_of book kind) state.governor) state.until ≡ state_text (shown tie book id kind t) (until tie book id kind t)
state_told tie book id kind t state is =
    ap (λ (w : Option Winner). state_text (option_and_then (shown_of book kind) w) state.until) is.governed
    ∙ ap (λ (e : End). state_text (shown tie book id kind t) e) is.changed

-- the state is the one that the definitions tell
pub state_told_whole : (tie : Tie) (book : Book) (id : List ℕ) (kind : PayloadType) (t : ℤ) (state : State) → IsStateAt tie book id kind t state
    → state ≡ record { governor = governs tie book id kind t; until = until tie book id kind t }
state_told_whole tie book id kind t state is =
    ap (λ (w : Option Winner). record { governor = w; until = state.until }) is.governed
    ∙ ap (λ (e : End). record { governor = governs tie book id kind t; until = e }) is.changed
