-- What is to be made of the groups of some slots, where an event goes or comes.
use Rattle.std.specs.Prelude.{◌≡◌, ◌⊎◌, ◌++◌, ℕ, true, false, List, [], sum_by, Some, None, IfSome}
use Rattle.adr_model.specs.declared.entry.Tie.{Tie}
use Rattle.adr_model.specs.declared.written.Written.{Written}
use Rattle.adr_model.specs.Lists.{In}
use Rattle.adr_lines.specs.declared.indexes.Indexes.{Indexes}
use Rattle.adr_lines.specs.Exchange.{IsIndexOf}
use Rattle.adr_lines.specs.Grouped.{entries_under}
use Rattle.adr_lines.specs.Right.{has_number}
use Rattle.adr_group.specs.Group.{AreWindowsOf, IsRightOf, Lines}
use Rattle.adr_group.specs.Jobs.{tasks_for, AreGathered, Task}
use Rattle.adr_group.specs.Repair.{most_repaired}
use Rattle.adr_group.specs.Writes.{changed_number}
use Rattle.adr_schedule.specs.declared.change.Change.{Change}
use Rattle.adr_schedule.specs.declared.draft.Draft.{Draft}
use Rattle.adr_schedule.specs.declared.draft.Windows.{Windows}
use Rattle.adr_schedule.specs.Shift.{entries_in, kept_side, number_in, sides_for}
use Rattle.adr_schedule.specs.Slots.{in_slot}

-- the windows that are there are those of the event that goes, of the one that comes, and of both
pub record AreWindowsFor (change : Change) (windows : Windows) : Type 0 where
  pub gone : IfSome windows.gone (λ w. AreGathered w.items (entries_in change.gone ++ []))
  pub come : IfSome windows.come (λ w. AreGathered w.items (entries_in change.come))
  pub both : IfSome windows.both (λ w. AreGathered w.items (entries_in change.gone ++ entries_in change.come))

-- the change makes no difference to the group
abbrev pub IsSame : Change → Lines → Type 0
IsSame change g = (kept_side true g.writes change.gone ≡ None) × (kept_side false g.writes change.come ≡ None)

-- the draft has the group, its writes after the change, and the windows of the sides that make a difference to it
pub record IsDraftOf (change : Change) (g : Lines) (draft : Draft) : Type 0 where
  pub group : draft.group ≡ g
  pub writes : (n : ℕ) → has_number draft.writes n ≡ changed_number (number_in (kept_side true g.writes change.gone)) (number_in (kept_side false g.writes change.come)) g.writes n
  pub windows : AreGathered draft.windows.items (sides_for change g.writes)

-- the draft is of the group in its slot
abbrev pub IsDraftIn : Change → List (List ℕ × Lines) → Draft → Type 0
IsDraftIn change groups draft = (g : Lines) → in_slot groups draft.slot ≡ Some g → IsDraftOf change g draft

abbrev pub AreDraftsIn : Change → List (List ℕ × Lines) → List Draft → Type 0
AreDraftsIn change groups drafts = (d : Draft) → In d drafts → IsDraftIn change groups d

-- each draft is of the group that it has
abbrev pub AreDraftsOf : Change → List Draft → Type 0
AreDraftsOf change drafts = (d : Draft) → In d drafts → IsDraftOf change d.group d

-- the change makes no difference to the group in the slot, or there is a draft of it
abbrev pub IsSeen : Change → List (List ℕ × Lines) → List Draft → ℕ → Type 0
IsSeen change groups drafts slot = (g : Lines) → in_slot groups slot ≡ Some g → IsSame change g ⊎ ((d : Draft) × In d drafts × (d.slot ≡ slot))

abbrev pub AreSeen : Change → List (List ℕ × Lines) → List Draft → List (List ℕ × ℕ) → Type 0
AreSeen change groups drafts seen = (s t : ℕ) → in_slot seen s ≡ Some t → IsSeen change groups drafts s

-- the tasks of a draft, one for each type
abbrev pub tasks_of : Draft → List Task
tasks_of draft = tasks_for draft.group draft.writes draft.windows.items

-- to do the tasks of the drafts compares at most so much
abbrev pub most_drafted : Indexes → List Draft → ℕ
most_drafted indexes drafts = sum_by (λ d. most_repaired d.windows.items d.writes indexes) drafts

-- the group was made of the draft
pub record IsMadeOf (indexes : Indexes) (draft : Draft) (h : Lines) : Type 0 where
  pub writes : h.writes ≡ draft.writes
  pub right : (tie : Tie) (events : List Written) → IsIndexOf tie events indexes → AreWindowsOf events draft.group.writes draft.writes (entries_under draft.windows.items)
      → IsRightOf tie events draft.group → IsRightOf tie events h

-- in each slot of a draft is a group that was made of a draft of the slot, and nothing is elsewhere
pub record AreMadeOf (indexes : Indexes) (drafts : List Draft) (made : List (List ℕ × Lines)) : Type 0 where
  pub of : (s : ℕ) (h : Lines) → in_slot made s ≡ Some h → (d : Draft) × In d drafts × (d.slot ≡ s) × IsMadeOf indexes d h
  pub has : (d : Draft) → In d drafts → (h : Lines) × (in_slot made d.slot ≡ Some h)

-- the same while some drafts are left
pub record AreMadeSoFar (indexes : Indexes) (drafts rest : List Draft) (made : List (List ℕ × Lines)) : Type 0 where
  pub of : (s : ℕ) (h : Lines) → in_slot made s ≡ Some h → (d : Draft) × In d drafts × (d.slot ≡ s) × IsMadeOf indexes d h
  pub has : (d : Draft) → In d drafts → In d rest ⊎ ((h : Lines) × (in_slot made d.slot ≡ Some h))
  pub left : (d : Draft) → In d rest → In d drafts
