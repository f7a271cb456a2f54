-- What becomes of a group where an event goes or comes.
use Rattle.std.specs.Prelude.{◌≡◌, ◌⊎◌, ℕ, Bool, true, false, List, [], ◌++◌, map, filter, Option, Some, None, option_map, option_to_list, if◌then◌else◌}
use Rattle.adr_value.specs.declared.payload.PayloadType.{PayloadType}
use Rattle.adr_model.specs.declared.entry.Rank.{Rank}
use Rattle.adr_model.specs.declared.entry.Tie.{Tie}
use Rattle.adr_model.specs.declared.timeline.Winner.{Winner}
use Rattle.adr_model.specs.declared.written.Written.{Written}
use Rattle.adr_model.specs.Governor.{entries_of}
use Rattle.adr_model.specs.Lists.{In}
use Rattle.adr_model.specs.Rank.{ranked}
use Rattle.adr_lines.specs.declared.indexes.Indexes.{Indexes}
use Rattle.adr_lines.specs.Exchange.{IsIndexOf}
use Rattle.adr_lines.specs.declared.grouped.TypeEntries.{TypeEntries}
use Rattle.adr_lines.specs.Grouped.{entries_under}
use Rattle.adr_lines.specs.Right.{has_number}
use Rattle.adr_group.specs.Group.{Lines, IsRightOf}
use Rattle.adr_group.specs.Laid.{AreOwnOf, IsComing}
use Rattle.adr_group.specs.Repair.{most_repaired}
use Rattle.adr_group.specs.Writes.{is_number, stays}
use Rattle.adr_schedule.specs.declared.change.Change.{Change}
use Rattle.adr_schedule.specs.declared.change.Side.{Side}
use Rattle.adr_schedule.specs.Moves.{asked_at}
use Rattle.adr_schedule.specs.Seating.{shifted, Seating}

-- the number of an event that goes or comes
abbrev pub number_in : Option Side → Option ℕ
number_in side = option_map (λ s. s.written) side

-- the event that goes is not the one that comes
abbrev pub AreTwo : Change → Type 0
AreTwo change = (n : ℕ) → is_number (number_in change.gone) n ≡ true → is_number (number_in change.come) n ≡ true → ⊥

-- the entries are those of the event of that number
abbrev pub HasEntriesOf : Tie → List Written → Side → Type 0
HasEntriesOf tie events side =
    (w : Written) → In w events → w.written ≡ side.written → (k : PayloadType) → entries_under side.entries.items k ≡ map (ranked tie) (entries_of k w)

abbrev pub AreSidesOf : Tie → List Written → Change → Type 0
AreSidesOf tie events change = (side : Side) → (change.gone ≡ Some side) ⊎ (change.come ≡ Some side) → HasEntriesOf tie events side

-- the side, where its number is one of the writes just as is asked
abbrev pub kept_side : Bool → List ℕ → Option Side → Option Side
kept_side has writes None = None
kept_side true writes (Some s) = if has_number writes s.written then Some s else None
kept_side false writes (Some s) = if has_number writes s.written then None else Some s

-- the entries of an event, none where there is none
abbrev pub entries_in : Option Side → List TypeEntries
entries_in None = []
entries_in (Some s) = s.entries.items

-- where there are ranks, the indexes have the entries of the event that comes and those of the one that goes, and the ranks
-- are those of all but the one that comes
pub record IsLaidBy (ranks : Option (Winner → Rank)) (indexes : Indexes) (change : Change) : Type 0 where
  pub comes : (rank : Winner → Rank) (side : Side) → ranks ≡ Some rank → change.come ≡ Some side → IsComing indexes rank side.written side.entries.items
  pub goes : (rank : Winner → Rank) (side : Side) → ranks ≡ Some rank → change.gone ≡ Some side → AreOwnOf indexes side.written side.entries.items

-- one number goes and one comes, and the group is right still
pub record Becomes (change : Change) (indexes : Indexes) (g h : Lines) : Type 0 where
  pub writes : (n : ℕ) → has_number h.writes n ≡ shifted (number_in change.gone) (number_in change.come) (has_number g.writes n) n
  pub right : (tie : Tie) (events : List Written) → IsIndexOf tie events indexes → AreSidesOf tie events change → IsRightOf tie events g → IsRightOf tie events h

-- the entries of those that make a difference to a group of these writes
abbrev pub sides_for : Change → List ℕ → List TypeEntries
sides_for change writes = entries_in (kept_side true writes change.gone) ++ entries_in (kept_side false writes change.come)

-- the writes without the one that goes and with the one that comes
abbrev pub shifted_writes : Change → List ℕ → List ℕ
shifted_writes change writes = option_to_list (number_in change.come) ++ filter (stays (number_in change.gone)) writes

-- to repair the group where the change makes a difference to it
unfoldable pub most_shifted : Change → Indexes → Lines → ℕ
most_shifted change indexes g = most_repaired (sides_for change g.writes) (shifted_writes change g.writes) indexes

-- to repair the group of the place
abbrev pub most_at : Change → Indexes → Seating → ℕ → ℕ
most_at change indexes s place = asked_at (most_shifted change indexes) s.seats s.groups place
