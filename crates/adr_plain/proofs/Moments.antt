-- The state of a type at an instant, from its ranked entries.
use Rattle.std.proofs.Common.{◌≡◌, ℕ, ℤ, List, Option, sym, ◌∙◌}
use Rattle.adr_value.specs.declared.payload.PayloadType.{PayloadType}
use Rattle.adr_time.specs.declared.span.End.{End}
use Rattle.adr_model.specs.declared.entry.Tie.{Tie}
use Rattle.adr_model.specs.declared.timeline.Winner.{Winner}
use Rattle.adr_model.specs.Answer.{changes, earliest, until}
use Rattle.adr_model.specs.Book.{Book}
use Rattle.adr_model.specs.Governor.{ranked_entries, winner_at}
use Rattle.adr_model.proofs.Ranked.{governs_wins}
use Rattle.adr_calendar.specs.Segments.{IsStateAt}

pub state_ranked : (tie : Tie) (book : Book) (id : List ℕ) (kind : PayloadType) (t : ℤ) (governor : Option Winner) (end : End)
    → governor ≡ winner_at (ranked_entries tie book id kind) t → end ≡ earliest (changes (ranked_entries tie book id kind) t)
    → IsStateAt tie book id kind t (record { governor = governor; until = end })
unfolding until
state_ranked tie book id kind t governor end wins changes_then = record {
  governed = wins ∙ sym (governs_wins tie book id kind t);
  changed = changes_then;
}
