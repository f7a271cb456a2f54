-- The event that the edit of a number wrote, and what its interval shows.
use Rattle.std.proofs.Common.{◌≡◌, ℕ, Bool, cond, List, [], ◌∷◌, Option, Some, None, refl, ap, ◌∙◌, arith}
use Rattle.std.specs.Prelude.{find, ◌==◌}
use Rattle.std.specs.Option.{option_and_then, option_map}
use Rattle.adr_value.specs.declared.payload.PayloadType.{PayloadType}
use Rattle.adr_object.specs.declared.event.Event.{Event}
use Rattle.adr_model.specs.Answer.{shown_in, shown_of}
use Rattle.adr_model.specs.Book.{Book}
use Rattle.adr_model.specs.declared.timeline.Winner.{Winner}
use Rattle.adr_model.specs.declared.written.Written.{Written}
use Rattle.adr_calendar.specs.Shown.{event_alone}
use Rattle.adr_store.specs.Numbers.{by_number}

equal_both_ways : (a b : ℕ) → (a == b) ≡ (b == a)
equal_both_ways a b = grind (arith)

or_behind : (c : Bool) (w : Written) (a b : Option Written) → a ≡ b → cond c (Some w) a ≡ cond c (Some w) b
or_behind c w a b same = ap (λ o. cond c (Some w) o) same

found_alike : (ws : List Written) (n : ℕ) → find (λ (w : Written). n == w.written) ws ≡ by_number ws n
found_alike [] n = refl
found_alike (w ∷ ws) n = rw (equal_both_ways n w.written) (or_behind (w.written == n) w (find (λ (v : Written). n == v.written) ws) (by_number ws n) (found_alike ws n))

shown_there : (kind : PayloadType) (place : ℕ) (o : Option Written) → option_and_then (shown_in kind place) o
    ≡ option_and_then (λ (e : Event). shown_in kind place (event_alone e)) (option_map (λ (w : Written). w.event) o)
shown_there kind place None = refl
shown_there kind place (Some w) = refl

-- what a winner shows is what its place of the event of its number shows
pub event_of_winner : (book : Book) (kind : PayloadType) (winner : Winner)
    → shown_of book kind winner
    ≡ option_and_then (λ (e : Event). shown_in kind winner.place (event_alone e)) (option_map (λ (w : Written). w.event) (by_number book.events winner.written))
event_of_winner book kind winner =
    ap (option_and_then (shown_in kind winner.place)) (found_alike book.events winner.written)
    ∙ shown_there kind winner.place (by_number book.events winner.written)
