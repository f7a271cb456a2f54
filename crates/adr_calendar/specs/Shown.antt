-- What a clause sees of what is shown.
use Rattle.std.specs.Prelude.{ℕ, List, ◌++◌, codes}
use Rattle.std.specs.Fmt.{signed_decimal}
use Rattle.adr_model.specs.Answer.{Shown, values_text}
use Rattle.adr_object.specs.declared.event.Event.{Event}
use Rattle.adr_model.specs.declared.written.Written.{Written}
use Rattle.adr_calendar.specs.declared.lines.Signal.{Signal as Borrowed}

abbrev pub shown_view : Borrowed → Shown
shown_view s = record { event = s.event.now; interval = s.interval; values = s.values.now }

-- `event e1 interval 0`
abbrev pub event_text : Shown → List ℕ
event_text s = codes "event " ++ s.event ++ codes " interval " ++ signed_decimal s.interval

-- ` event e1 interval `
abbrev pub naming_text : List ℕ → List ℕ
naming_text event = codes " event " ++ event ++ codes " interval "

-- ` event e1 interval 0 values 10`
abbrev pub shown_text : Shown → List ℕ
shown_text s = codes " " ++ event_text s ++ codes " " ++ values_text s.values

-- the event as one that no edit wrote: what an interval of it shows doesn't turn on the edit
abbrev pub event_alone : Event → Written
event_alone event = record { event = event; written = 0 }
