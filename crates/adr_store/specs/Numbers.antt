-- The numbers that are kept beside the objects: what names what, how many entries there are, who was written when.
use Rattle.std.specs.Prelude.{◌≡◌, ℕ, ◌≤◌, ◌==◌, Bool, List, [], ◌∷◌, length, Option, if◌then◌else◌, sum_by, find}
use Rattle.std.specs.Option.{unwrap_or, option_map}
use Rattle.std.specs.Str.{bytes_eq}
use Rattle.adr_value.specs.declared.limits.TheConstants.{MOST_ENTRIES, MOST_EVENTS, MOST_RESOURCES}
use Rattle.adr_shared.specs.Map.{lookup}
use Rattle.adr_object.specs.declared.event.Event.{Event}
use Rattle.adr_object.specs.declared.party.Resource.{Resource}
use Rattle.adr_model.specs.declared.written.Written.{Written}
use Rattle.adr_model.specs.Edits.{entry_count}

-- how often the id was added
abbrev pub times : List (List ℕ × ℕ) → List ℕ → ℕ
times counts id = unwrap_or (lookup id counts) 0

abbrev pub one_if : Bool → ℕ
one_if b = if b then 1 else 0

-- how many events name the program
abbrev pub naming : List Written → List ℕ → ℕ
naming events id = sum_by (λ w. one_if (bytes_eq id w.event.program_id)) events

-- how many resources name the ven
abbrev pub owned : List Resource → List ℕ → ℕ
owned resources id = sum_by (λ r. one_if (bytes_eq id r.ven_id)) resources

-- the entries of all events
abbrev pub all_entries : List Written → ℕ
all_entries events = sum_by (λ w. entry_count w.event) events

-- the event that the edit of that number wrote last
abbrev pub by_number : List Written → ℕ → Option Written
by_number events n = find (λ w. w.written == n) events

-- the event kept for the write of that number
abbrev pub kept_for : List (List ℕ × Event) → ℕ → Option Event
kept_for writes n = lookup (n ∷ []) writes

-- the events are few, and what is kept of them is true: how many name each program, how many entries they have, and
-- which event each number wrote
pub record IsCounted (events : List Written) (named : List (List ℕ × ℕ)) (entries : ℕ) (writes : List (List ℕ × Event)) : Type 0 where
  pub naming : (id : List ℕ) → times named id ≡ naming events id
  pub counted : entries ≡ all_entries events
  pub written : (n : ℕ) → kept_for writes n ≡ option_map (λ w. w.event) (by_number events n)
  pub few : length events ≤ MOST_EVENTS
  pub within : entries ≤ MOST_ENTRIES

-- the resources are few, and how many name each ven is true
pub record IsOwned (resources : List Resource) (owners : List (List ℕ × ℕ)) : Type 0 where
  pub owned : (id : List ℕ) → times owners id ≡ owned resources id
  pub few : length resources ≤ MOST_RESOURCES
