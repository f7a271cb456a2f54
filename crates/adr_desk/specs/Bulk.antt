-- What is built from a whole book.
use Rattle.std.specs.Prelude.{◌≡◌, ℕ, ℤ, ◌≤ℤ◌, true, List, [], ◌∷◌, filter, flat_map, length, slice_get, Some, MatchResult, Result}
use Rattle.std.specs.List.{AllByRecursion, AllZip, range_with_len}
use Rattle.std.specs.Option.{option_map_or}
use Rattle.adr_refusal.specs.declared.refusal.Refusal.{Refusal}
use Rattle.adr_refusal.specs.declared.refusal.Refusal.TheVariants.{NoMemory}
use Rattle.adr_model.specs.declared.entry.Tie.{Tie}
use Rattle.adr_model.specs.declared.written.Written.{Written}
use Rattle.adr_model.specs.Book.{Book}
use Rattle.adr_store.specs.Numbers.{by_number}
use Rattle.adr_lines.specs.declared.grouped.TypeEntries.{TypeEntries}
use Rattle.adr_lines.specs.Grouped.{any_covers_at}
use Rattle.adr_lines.specs.Right.{has_number}
use Rattle.adr_group.specs.Group.{Lines, IsRightOf}
use Rattle.adr_regroup.specs.Party.{AreWritesAt}

-- the events of those numbers
abbrev pub chosen : List Written → List ℕ → List Written
chosen events numbers = filter (λ w. has_number numbers w.written) events

-- the event that the edit of that number wrote, where it is one of them
abbrev pub numbered : List Written → ℕ → List Written
numbered events n = option_map_or (λ w. w ∷ []) (by_number events n) []

-- those of the numbers, one number after the other
abbrev pub in_turn : List Written → List ℕ → List Written
in_turn events numbers = flat_map (numbered events) numbers

-- the group has these writes, and is right of the events
abbrev pub IsGroupFor : Tie → List Written → List ℕ → Lines → Type 0
IsGroupFor tie events numbers group = (group.writes ≡ numbers) × IsRightOf tie events group

-- the group was built, or there was no memory for it
abbrev pub IsBuilt : Tie → List Written → List ℕ → Result Lines Refusal → Type 0
IsBuilt tie events numbers built = MatchResult built (IsGroupFor tie events numbers) (λ refusal. refusal ≡ NoMemory)

-- the writes of the place were found, or there was no memory for them
abbrev pub AreFoundAt : Book → ℕ → Result (List ℕ) Refusal → Type 0
AreFoundAt book place answer = MatchResult answer (AreWritesAt book place) (λ refusal. refusal ≡ NoMemory)

-- there are the writes of that many places from that one on, in order
abbrev pub AreWritesFrom : Book → ℕ → ℕ → List (List ℕ) → Type 0
AreWritesFrom book place count all = AllZip (AreWritesAt book) (range_with_len place count) all

-- each place of those before that one has a slot, where the writes of the events that apply to its resource stand
abbrev pub ArePlanned : Book → ℕ → List ℕ → List (List ℕ) → Type 0
ArePlanned book reached slots jobs =
    (length slots ≡ reached)
    × ((place slot : ℕ) → slice_get slots place ≡ Some slot → (numbers : List ℕ) × (slice_get jobs slot ≡ Some numbers) × AreWritesAt book place numbers)

-- the window has one entry, which covers each instant from that one on
abbrev pub IsFrom : ℤ → TypeEntries → Type 0
IsFrom from group = (length group.entries.items ≡ 1) × ((t : ℤ) → from ≤ℤ t → any_covers_at group.entries.items t ≡ true)

-- each of the windows does
abbrev pub AreFrom : ℤ → List TypeEntries → Type 0
AreFrom from windows = AllByRecursion (IsFrom from) windows
