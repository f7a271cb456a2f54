-- The event that an edit takes away, and the one that it makes.
use Rattle.std.specs.Prelude.{◌≡◌, ◌≤◌, ◌+◌, ◌⊎◌, ℕ, Bool, true, false, List, ◌++◌, length, slice_get, Option, Some, None, option_map, option_to_list}
use Rattle.adr_object.specs.declared.object.Object.{Object}
use Rattle.adr_object.specs.declared.object.Object.TheVariants.{Event as event}
use Rattle.adr_object.specs.declared.object.Kind.TheVariants.{Event as event_kind}
use Rattle.adr_object.specs.declared.object.Edit.{Edit}
use Rattle.adr_object.specs.declared.object.Edit.TheVariants.{Create, Change, Remove}
use Rattle.adr_object.specs.declared.party.Resource.{Resource as OneResource}
use Rattle.adr_model.specs.declared.written.Written.{Written}
use Rattle.adr_model.specs.Book.{Book, event_by}
use Rattle.adr_model.specs.Governor.{applies_to}
use Rattle.adr_model.specs.Lists.{In}
use Rattle.adr_schedule.specs.Moves.{is_among}
use Rattle.adr_regroup.specs.Compared.{StandOnce}

-- the event that is there with the object's id, where it is an event
abbrev pub gone_for : Book → Object → Option Written
gone_for book (event e) = event_by book e.id
gone_for book _ = None

-- the event that the edit takes away
abbrev pub gone_of : Book → Edit → Option Written
gone_of book (Create o) = None
gone_of book (Change o) = gone_for book o
gone_of book (Remove event_kind id) = event_by book id
gone_of book (Remove _ id) = None

-- the event that the next edit makes of the object
abbrev pub made_of : Book → Object → Option Written
made_of book (event e) = Some (record { event = e; written = book.version + 1 })
made_of book _ = None

-- the event that the edit makes
abbrev pub come_of : Book → Edit → Option Written
come_of book (Create o) = made_of book o
come_of book (Change o) = made_of book o
come_of book (Remove kind id) = None

abbrev pub number_of : Option Written → Option ℕ
number_of w = option_map (λ w. w.written) w

-- the events of the book and the one that comes
abbrev pub with_come : Book → Option Written → List Written
with_come book come = book.events ++ option_to_list come

-- from the old book to the new one the one event goes and the other comes, and all else stays
pub record IsExchanged (old new : Book) (gone come : Option Written) : Type 0 where
  pub kept : (w : Written) → In w old.events → In w new.events ⊎ (gone ≡ Some w)
  pub were : (w : Written) → gone ≡ Some w → In w old.events
  pub are : (w : Written) → come ≡ Some w → In w new.events
  pub was : (w : Written) → In w new.events → (In w old.events × (gone ≡ Some w → ⊥)) ⊎ (come ≡ Some w)
  pub fresh : (w v : Written) → In w old.events → come ≡ Some v → w.written ≡ v.written → ⊥
  pub one : (w v : Written) → In w old.events → In v old.events → w.written ≡ v.written → w ≡ v
  pub resources : new.resources ≡ old.resources
  pub applies : (r : OneResource) (w : Written) → applies_to new r w ≡ applies_to old r w

-- by one id the old book has the event that goes, and the new one the event that comes
abbrev pub HaveOneId : Book → Book → Option Written → Option Written → Type 0
HaveOneId old new gone come = (id : List ℕ) × (event_by old id ≡ gone) × (event_by new id ≡ come)

-- the places of the resources to which the event applies, where there is one: each once
pub record ArePlacesOf (book : Book) (event : Option Written) (places : List ℕ) : Type 0 where
  pub apply : (p : ℕ) (r : OneResource) (w : Written) → slice_get book.resources p ≡ Some r → event ≡ Some w → is_among places p ≡ applies_to book r w
  pub count : length places ≤ length book.resources
  pub once : StandOnce places (length book.resources)
