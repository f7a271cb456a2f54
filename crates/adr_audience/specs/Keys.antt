-- What the resources of a book offer, and what its events ask for.
use Rattle.std.specs.Prelude.{◌≡◌, List}
use Rattle.adr_model.specs.Book.{Book}
use Rattle.adr_keys.specs.declared.key.Key.{Key}
use Rattle.adr_audience.specs.Rows.{offers_of}
use Rattle.adr_audience.specs.Asks.{asks_of}

-- a row of keys for each resource, and one for each event
pub record Keys : Type 0 where
  pub offers : List (List Key)
  pub asks : List (List Key)

-- the rows are those of the book
abbrev pub AreKeysOf : Book → Keys → Type 0
AreKeysOf book keys = (keys.offers ≡ offers_of book) × (keys.asks ≡ asks_of book)
