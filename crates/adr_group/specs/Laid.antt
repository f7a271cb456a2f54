-- The entries of an event that are laid over a timeline, and those of one that goes.
use Rattle.std.specs.Prelude.{◌≡◌, ◌↔◌, ◌⊎◌, ◌≤◌, ◌+◌, ◌*◌, ℕ, ℤ, true, List, drop, length, take, Option, None}
use Rattle.std.specs.Option.{option_map, option_map_or}
use Rattle.adr_value.specs.declared.payload.PayloadType.{PayloadType}
use Rattle.adr_model.specs.declared.entry.Entry.{Entry}
use Rattle.adr_model.specs.declared.entry.Rank.{Rank}
use Rattle.adr_model.specs.declared.timeline.Segment.{Segment}
use Rattle.adr_model.specs.declared.timeline.Winner.{Winner}
use Rattle.adr_model.specs.Governor.{winner_at, winner_of}
use Rattle.adr_model.specs.Lists.{In}
use Rattle.adr_model.specs.Timeline.{shows}
use Rattle.adr_timeline.specs.Overlay.{spans_of}
use Rattle.adr_timeline.specs.Steps.{is_run, lesser, rank_at, winner_of_rank}
use Rattle.adr_timeline.specs.Windows.{any_covers}
use Rattle.adr_lines.specs.declared.grouped.TypeEntries.{TypeEntries}
use Rattle.adr_lines.specs.Grouped.{entries_under, HaveOwnTypes}
use Rattle.adr_lines.specs.Right.{has_number, written_in}
use Rattle.adr_lines.specs.declared.indexes.Indexes.{Indexes}
use Rattle.adr_lines.specs.Indexes.{under}
use Rattle.adr_group.specs.declared.job.Held.{Held}
use Rattle.adr_group.specs.Repair.{most_inside, IsRepaired}
use Rattle.adr_group.specs.Writes.{changed_number, is_number}

-- the entries come in turn; what they meet of the line, as entries by the ranks of winners, comes in turn too, and is no
-- more than twice as many, or no more with them than building inside them compares
pub record IsMet (rank : Winner → Rank) (writes : List ℕ) (indexed : List Entry) (line : List Segment) (entries met : List Entry) : Type 0 where
  pub run : is_run entries ≡ true
  pub in_turn : is_run met ≡ true
  pub shows : (t : ℤ) → any_covers (spans_of entries) t ≡ true → rank_at met t ≡ option_map rank (shows line t)
  pub few : (length met ≤ 2 * length entries) ⊎ (length met + length entries ≤ most_inside writes indexed entries)

-- the least, at each instant, of what is shown and of the entries
abbrev pub least_over : List Entry → List Entry → ℤ → Option Winner
least_over shown entries t = option_map winner_of_rank (lesser (rank_at shown t) (rank_at entries t))

-- to lay the entries of one event over a timeline, and to take out those of another, compares at most so much
abbrev pub most_exchanged : List ℕ → List Entry → List Entry → Held → ℕ
most_exchanged writes entries windows held =
    length held.shown.items + length (drop held.leaving windows)
    + option_map_or (λ number. most_inside writes entries (take held.leaving windows)) held.gone 0

-- the line shows what wins among some of the entries, and what is held of it is so ranked; those of both writes are these
-- and those that come; and the new writes are both but for the one that goes, whose entries are among the windows
pub record IsHeld (writes : List ℕ) (entries windows : List Entry) (line : List Segment) (held : Held) : Type 0 where
  pub others : List ℕ
  pub both : List ℕ
  pub right : (t : ℤ) → shows line t ≡ winner_at (written_in others entries) t
  pub in_turn : is_run held.shown.items ≡ true
  pub run : is_run (drop held.leaving windows) ≡ true
  pub shown : (t : ℤ) → any_covers (spans_of (drop held.leaving windows)) t ≡ true → rank_at held.shown.items t ≡ rank_at (written_in others entries) t
  pub comes : (e : Entry) → In e (written_in both entries) ↔ (In e (written_in others entries) ⊎ In e (drop held.leaving windows))
  pub goes : (n : ℕ) → has_number writes n ≡ changed_number held.gone None both n
  pub own : (e : Entry) → In e entries → is_number held.gone e.rank.written ≡ true → In e (take held.leaving windows)

-- where what is held is right, the line is repaired inside the windows
abbrev pub IsExchanged : List ℕ → List Entry → List Entry → Held → List Segment → List Segment → Type 0
IsExchanged writes entries windows held before after = IsHeld writes entries windows before held → IsRepaired writes entries windows (shows before) after

-- under each type the indexed entries of that number are just those of the groups
abbrev pub AreOwnOf : Indexes → ℕ → List TypeEntries → Type 0
AreOwnOf indexes number groups = (k : PayloadType) (e : Entry) → (In e (under indexes k) × (e.rank.written ≡ number)) ↔ In e (entries_under groups k)

-- the ranks are those of the indexed entries, but for those of that number
abbrev pub AreRanksBut : ℕ → Indexes → (Winner → Rank) → Type 0
AreRanksBut number indexes rank = (k : PayloadType) (e : Entry) → In e (under indexes k) → (e.rank.written ≡ number → ⊥) → rank (winner_of e) ≡ e.rank

-- the groups have the entries of the event of that number, each type once, and the ranks are those of the others
pub record IsComing (indexes : Indexes) (rank : Winner → Rank) (number : ℕ) (groups : List TypeEntries) : Type 0 where
  pub types : HaveOwnTypes groups
  pub own : AreOwnOf indexes number groups
  pub ranks : AreRanksBut number indexes rank
