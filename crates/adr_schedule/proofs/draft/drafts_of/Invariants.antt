use Rattle.std.proofs.Common.{◌≡◌, ◌⊎◌, ◌≤◌, ◌+◌, ℕ, true, IfSome, Some, length, slice_get, sum_by}
use Rattle.adr_lines.specs.declared.indexes.Indexes.{Indexes}
use Rattle.adr_schedule.specs.Draft.{most_drafted, AreDraftsIn, AreDraftsOf, AreSeen, AreWindowsFor, IsSeen}
use Rattle.adr_schedule.specs.Moves.{asked_at, is_among}
use Rattle.adr_schedule.specs.Shift.{most_shifted}
use Rattle.adr_schedule.specs.Slots.{HasSlot}
use Rattle.adr_schedule.specs.Tally.{HasSeen, IsTallied}
use Rattle.adr_schedule.proofs.draft.drafts_of.Given as goal

-- each place is left, or its slot was looked at; and the drafts compare no more than the places so far ask
abbrev pub invariant-rest : goal.invariant-rest
invariant-rest l = record {
  windows : AreWindowsFor l.change l.drafts.windows;
  drafts : AreDraftsIn l.change l.groups l.drafts.list.items;
  own : AreDraftsOf l.change l.drafts.list.items;
  last : IfSome l.drafts.last (HasSlot l.drafts.seen);
  known : AreSeen l.change l.groups l.drafts.list.items l.drafts.seen;
  seen : (place slot : ℕ) → is_among l.places place ≡ true → slice_get l.seats place ≡ Some slot → (is_among l.rest place ≡ true) ⊎ IsSeen l.change l.groups l.drafts.list.items slot;
  tally : IsTallied l.places l.rest l.seats l.drafts.tally;
  slots : HasSeen l.drafts.seen l.drafts.tally;
  least : (indexes : Indexes) → most_drafted indexes l.drafts.list.items + sum_by (asked_at (most_shifted l.change indexes) l.seats l.groups) l.rest ≤ sum_by (asked_at (most_shifted l.change indexes) l.seats l.groups) l.places;
}

abbrev pub decreases-rest : goal.decreases-rest
decreases-rest l = length l.rest
