-- What governs a resource that is there, and until when.
use Rattle.std.specs.Prelude.{ℕ, ℤ, List, is_some, Result, Ok, Err, if◌then◌else◌}
use Rattle.adr_refusal.specs.declared.refusal.Refusal.{Refusal}
use Rattle.adr_refusal.specs.declared.refusal.Refusal.TheVariants.{UnknownResource}
use Rattle.adr_value.specs.declared.payload.PayloadType.{PayloadType}
use Rattle.adr_model.specs.declared.entry.Tie.{Tie}
use Rattle.adr_model.specs.Answer.{until}
use Rattle.adr_model.specs.Book.{Book, resource_by}
use Rattle.adr_model.specs.Governor.{governs}
use Rattle.adr_calendar.specs.declared.calendar.State.{State}

-- a resource that is not there is refused
abbrev pub state_at : Tie → Book → List ℕ → PayloadType → ℤ → Result State Refusal
state_at tie book id payload_type t =
    if is_some (resource_by book id) then Ok (record { governor = governs tie book id payload_type t; until = until tie book id payload_type t })
    else Err UnknownResource
