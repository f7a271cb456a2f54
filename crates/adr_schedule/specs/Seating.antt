-- Which group of timelines each resource has, by its place in order of creation.
use Rattle.std.specs.Prelude.{◌≡◌, ◌<◌, ℕ, Bool, true, false, List, length, Option, Some, slice_get, if◌then◌else◌}
use Rattle.std.specs.Option.{option_map_or}
use Rattle.adr_object.specs.declared.party.Resource.{Resource}
use Rattle.adr_model.specs.declared.entry.Tie.{Tie}
use Rattle.adr_model.specs.declared.written.Written.{Written}
use Rattle.adr_model.specs.Book.{Book}
use Rattle.adr_model.specs.Governor.{applies_to}
use Rattle.adr_model.specs.Lists.{In}
use Rattle.adr_lines.specs.Right.{has_number}
use Rattle.adr_group.specs.Group.{Lines, IsRightOf}
use Rattle.adr_group.specs.Writes.{is_number}
use Rattle.adr_schedule.specs.Moves.{is_among}
use Rattle.adr_schedule.specs.Slots.{value_at}

-- the slot of each place, and the group in each slot
pub record Seating : Type 0 where
  pub seats : List ℕ
  pub groups : List (List ℕ × Lines)

-- the group of the place
abbrev pub group_at : Seating → ℕ → Option Lines
group_at s place = value_at s.seats s.groups place

-- the write is one of those of the place's group
abbrev pub has_at : Seating → ℕ → ℕ → Bool
has_at s place n = option_map_or (λ g. has_number g.writes n) (group_at s place) false

-- the group of each place shows what wins among the events of its writes
abbrev pub AreRight : Tie → List Written → Seating → Type 0
AreRight tie events s = (place : ℕ) (g : Lines) → group_at s place ≡ Some g → IsRightOf tie events g

-- the number that comes is there, the one that goes is not, and any other is there if it was
abbrev pub shifted : Option ℕ → Option ℕ → Bool → ℕ → Bool
shifted gone come was n = if is_number come n then true else if is_number gone n then false else was

-- at these places one number goes and one comes, and all others are as they were
pub record IsShifted (gone come : Option ℕ) (places : List ℕ) (old new : Seating) : Type 0 where
  pub count : length new.seats ≡ length old.seats
  pub writes : (place n : ℕ) → place < length old.seats
      → has_at new place n ≡ (if is_among places place then shifted gone come (has_at old place n) n else has_at old place n)

-- each resource of the book has a group that is right of the events, and whose writes are those of the events that apply to it
pub record AreSeatedFor (tie : Tie) (book : Book) (s : Seating) : Type 0 where
  pub count : length s.seats ≡ length book.resources
  pub right : AreRight tie book.events s
  pub writes : (place : ℕ) (r : Resource) (w : Written) → slice_get book.resources place ≡ Some r → In w book.events → has_at s place w.written ≡ applies_to book r w
  pub known : (place n : ℕ) → has_at s place n ≡ true → (w : Written) × In w book.events × (w.written ≡ n)
