-- What an edit of a ven or of a resource asks of the schedule.
use Rattle.std.specs.Prelude.{◌≡◌, ◌<◌, ◌≤◌, ℕ, true, false, List, [], length, flat_map, slice_get, Some, if◌then◌else◌}
use Rattle.std.specs.Option.{option_map_or}
use Rattle.std.specs.Str.{bytes_eq}
use Rattle.adr_value.specs.declared.payload.PayloadType.{PayloadType}
use Rattle.adr_object.specs.declared.object.Edit.{Edit}
use Rattle.adr_object.specs.declared.object.Edit.TheVariants.{Create, Change, Remove}
use Rattle.adr_object.specs.Object.{id_of}
use Rattle.adr_object.specs.declared.party.Resource.{Resource}
use Rattle.adr_object.specs.declared.party.Ven.{Ven}
use Rattle.adr_store.specs.Numbers.{by_number}
use Rattle.adr_model.specs.declared.entry.Entry.{Entry}
use Rattle.adr_model.specs.declared.entry.Tie.{Tie}
use Rattle.adr_model.specs.declared.written.Written.{Written}
use Rattle.adr_model.specs.Book.{Book}
use Rattle.adr_model.specs.Governor.{applies_to, entries_of}
use Rattle.adr_model.specs.Lists.{In}
use Rattle.adr_keys.specs.declared.key.Key.{Key}
use Rattle.adr_audience.specs.Asks.{applies_with, asked_keys, asks_of}
use Rattle.adr_audience.specs.Offers.{offers}
use Rattle.adr_lines.specs.Right.{has_number}
use Rattle.adr_schedule.specs.Moves.{is_among}
use Rattle.adr_schedule.specs.Seating.{has_at, AreRight, Seating}
use Rattle.adr_regroup.specs.Compared.{StandOnce}
use Rattle.adr_regroup.specs.declared.reseat.Seen.{Seen}

-- the writes are those of the events of the book that apply to the resource of the ven
pub record AreWritesWith (book : Book) (r : Resource) (v : Ven) (numbers : List ℕ) : Type 0 where
  pub has : (w : Written) → In w book.events → has_number numbers w.written ≡ applies_with book r v w.event
  pub known : (n : ℕ) → has_number numbers n ≡ true → (w : Written) × In w book.events × (w.written ≡ n)

-- the writes are those of the events of the book that apply to each resource that offers these of the keys that the events ask for
abbrev pub AreWritesFor : Book → List Key → List ℕ → Type 0
AreWritesFor book asked numbers = (r : Resource) (v : Ven) → asked_keys (asks_of book) (offers r v) ≡ asked → AreWritesWith book r v numbers

-- so are those that were seen of a place for the keys that were
abbrev pub IsSeen : Book → Seen → Type 0
IsSeen book seen = AreWritesFor book seen.asked seen.writes

-- the entries of the event of that number
abbrev pub entries_by : List Written → ℕ → PayloadType → List Entry
entries_by events n payload_type = option_map_or (entries_of payload_type) (by_number events n) []

-- the same, unless the number is among the others
abbrev pub entries_unless : List Written → List ℕ → ℕ → PayloadType → List Entry
entries_unless events others n payload_type = if has_number others n then [] else entries_by events n payload_type

-- the entries of the events of those numbers that are not among the others
abbrev pub entries_but : List Written → List ℕ → List ℕ → PayloadType → List Entry
entries_but events numbers others payload_type = flat_map (λ n. entries_unless events others n payload_type) numbers

-- ---- the resources whose groups change

-- the id of the object that the edit is of
abbrev pub id_of_edit : Edit → List ℕ
id_of_edit (Create o) = id_of o
id_of_edit (Change o) = id_of o
id_of_edit (Remove kind id) = id

-- the edit leaves events and programs
pub record KeepsEvents (old new : Book) : Type 0 where
  pub events : new.events ≡ old.events
  pub programs : new.programs ≡ old.programs

-- the writes are those of the events that apply to the resource at the place
pub record AreWritesAt (book : Book) (place : ℕ) (numbers : List ℕ) : Type 0 where
  pub has : (r : Resource) (w : Written) → slice_get book.resources place ≡ Some r → In w book.events → has_number numbers w.written ≡ applies_to book r w
  pub known : (n : ℕ) → has_number numbers n ≡ true → (w : Written) × In w book.events × (w.written ≡ n)

-- the groups are right of the events, and each place but these has the writes of the events that apply to its resource
pub record AreSeatedBut (tie : Tie) (book : Book) (places : List ℕ) (s : Seating) : Type 0 where
  pub count : length s.seats ≡ length book.resources
  pub right : AreRight tie book.events s
  pub writes : (place : ℕ) (r : Resource) (w : Written) → slice_get book.resources place ≡ Some r → In w book.events
      → is_among places place ≡ false → has_at s place w.written ≡ applies_to book r w
  pub known : (place n : ℕ) → has_at s place n ≡ true → (w : Written) × In w book.events × (w.written ≡ n)

-- of the places before that one these are those of the ven's resources
pub record AreOfVen (book : Book) (id : List ℕ) (reached : ℕ) (places : List ℕ) : Type 0 where
  pub of_ven : (p : ℕ) (r : Resource) → slice_get book.resources p ≡ Some r → p < reached → is_among places p ≡ bytes_eq id r.ven_id
  pub before : (p : ℕ) → is_among places p ≡ true → p < reached
  pub few : length places ≤ reached
  pub once : StandOnce places reached
