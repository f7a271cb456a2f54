use Rattle.std.proofs.Common.{◌≡◌, ◌<◌, ◌++◌, ℕ, Some, length, slice_get}
use Rattle.adr_group.specs.Group.{Lines}
use Rattle.adr_schedule.specs.Slots.{in_slot, AreSeated}
use Rattle.adr_schedule.proofs.schedule.Schedule.of.Given as goal

-- the places so far are seated with groups that stand in their slots, and then come those that are left
abbrev pub invariant-rest : goal.invariant-rest
invariant-rest l = record {
  seats : l.seats ++ l.rest ≡ l.slots;
  seated : AreSeated l.seats l.kept;
  groups : (s : ℕ) (g : Lines) → in_slot l.kept s ≡ Some g → slice_get l.groups s ≡ Some g;
  within : (p s : ℕ) → slice_get l.rest p ≡ Some s → s < length l.groups;
}

abbrev pub decreases-rest : goal.decreases-rest
decreases-rest l = length l.rest
