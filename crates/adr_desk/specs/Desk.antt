-- What a desk keeps beside a book and its timelines.
use Rattle.std.specs.Prelude.{◌≡◌, ⊤, map, Option, Some, None}
use Rattle.adr_value.specs.declared.payload.PayloadType.{PayloadType}
use Rattle.adr_model.specs.declared.entry.Tie.{Tie}
use Rattle.adr_model.specs.declared.written.Written.{Written}
use Rattle.adr_model.specs.Book.{Book}
use Rattle.adr_model.specs.Governor.{entries_of}
use Rattle.adr_model.specs.Rank.{ranked}
use Rattle.adr_lines.specs.Grouped.{entries_under, HaveOwnTypes}
use Rattle.adr_audience.specs.Keys.{AreKeysOf, Keys}
use Rattle.adr_lines.specs.declared.indexes.Indexes.{Indexes}
use Rattle.adr_lines.specs.Exchange.{IsIndexOf}
use Rattle.adr_schedule.specs.declared.change.Side.{Side}
use Rattle.adr_schedule.specs.Seating.{AreSeatedFor, Seating}

-- the keys and the indexes are those of the book
pub record AreOf (tie : Tie) (book : Book) (keys : Keys) (indexes : Indexes) : Type 0 where
  pub keys_are : AreKeysOf book keys
  pub indexed : IsIndexOf tie book.events indexes

-- the keys, the indexes and the groups are those of the book
pub record IsDesk (tie : Tie) (book : Book) (keys : Keys) (indexes : Indexes) (schedule : Seating) : Type 0 where
  pub keys_are : AreKeysOf book keys
  pub indexed : IsIndexOf tie book.events indexes
  pub seated : AreSeatedFor tie book schedule

-- the side is the event's: its number, and its entries as they are ranked, each type once
abbrev pub IsSideOf : Tie → Option Written → Option Side → Type 0
IsSideOf tie None None = ⊤
IsSideOf tie None (Some s) = ⊥
IsSideOf tie (Some w) None = ⊥
IsSideOf tie (Some w) (Some s) =
    (s.written ≡ w.written)
    × ((k : PayloadType) → entries_under s.entries.items k ≡ map (ranked tie) (entries_of k w))
    × HaveOwnTypes s.entries.items
