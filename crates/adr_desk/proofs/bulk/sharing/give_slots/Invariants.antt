use Rattle.std.specs.Prelude.{ℕ}
use Rattle.adr_model.specs.Book.{Book}
use Rattle.adr_desk.proofs.Seats.{ArePlannedBefore}
use Rattle.adr_desk.proofs.bulk.sharing.give_slots.Given as goal

-- the resources before have their slots
abbrev pub invariant-loop-writes : goal.invariant-loop-writes
invariant-loop-writes l =
    (book : Book) (count : ℕ) → ArePlannedBefore book count l.initial.slots.items l.initial.jobs.items l.initial.writes-iterator.rest.len l.initial.writes-iterator.rest.items
    → ArePlannedBefore book count l.slots.items l.jobs.items l.writes-iterator.rest.len l.writes-iterator.rest.items
