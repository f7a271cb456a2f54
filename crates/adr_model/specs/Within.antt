-- The limits that every book of accepted edits keeps.
use Rattle.std.specs.Prelude.{ℕ, ◌≤◌, List, flat_map, fold, length, sum_by}
use Rattle.std.specs.List.{IsDistinct}
use Rattle.std.specs.Result.{result_unwrap_or}
use Rattle.std.specs.Str.{bytes_eq}
use Rattle.adr_value.specs.Limits.{Limits, limits}
use Rattle.adr_value.specs.Same.{same_type}
use Rattle.adr_value.specs.declared.limits.TheConstants.{MOST_VERSION}
use Rattle.adr_value.specs.declared.payload.PayloadType.{PayloadType}
use Rattle.adr_object.specs.declared.object.Edit.{Edit}
use Rattle.adr_model.specs.declared.written.Written.{Written}
use Rattle.adr_model.specs.Book.{Book}
use Rattle.adr_model.specs.Edits.{after, entry_count, step_by}
use Rattle.adr_model.specs.Governor.{entries_of}
use Rattle.adr_model.specs.Whole.{event_ids}

-- how many entries the events of the book have
abbrev pub entries_in_all : Book → ℕ
entries_in_all book = sum_by (λ w. entry_count w.event) book.events

-- no more objects of a kind and no more entries than the limits say, and no version above the one at which it is full
pub record IsWithin (l : Limits) (full : ℕ) (book : Book) : Type 0 where
  pub programs : length book.programs ≤ l.programs
  pub vens : length book.vens ≤ l.vens
  pub resources : length book.resources ≤ l.resources
  pub events : length book.events ≤ l.events
  pub entries : entries_in_all book ≤ l.entries
  pub version : book.version ≤ full

-- what the accepted ones of the edits make of a base, under limits and where the book is full at a version
abbrev pub after_by : Limits → ℕ → Book → List Edit → Book
after_by l full base edits = fold (λ book edit. result_unwrap_or (step_by l full book edit) book) base edits

-- under any limits: no edits bring a base that is within them above them, where its events have distinct ids, as in every whole book
abbrev pub EditsKeepLimits : Type 0
EditsKeepLimits =
    (l : Limits) (full : ℕ) (base : Book) (edits : List Edit) → IsDistinct bytes_eq (event_ids base)
    → IsWithin l full base → IsWithin l full (after_by l full base edits)

-- so every book of accepted edits is within the limits in force, and its version is at most the greatest
abbrev pub BooksAreWithin : Type 0
BooksAreWithin = (edits : List Edit) → IsWithin limits MOST_VERSION (after edits)

-- of distinct payload types an event has no more entries than are counted
abbrev pub TypesAreCounted : Type 0
TypesAreCounted = (w : Written) (types : List PayloadType) → IsDistinct same_type types → sum_by (λ k. length (entries_of k w)) types ≤ entry_count w.event

-- of no payload type have events more entries than are counted
abbrev pub EntriesAreCounted : Type 0
EntriesAreCounted = (events : List Written) (payload_type : PayloadType) → length (flat_map (entries_of payload_type) events) ≤ sum_by (λ w. entry_count w.event) events
